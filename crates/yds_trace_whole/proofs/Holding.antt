-- What holds of a task's jobs behind some lines whose parts end at a cut, and that one line more leaves it so, and changes nothing that is told.
use Rattle.yds_model.proofs.Common.{◌≡◌, ◌∙◌, ℕ, ◌+◌, ◌<◌, ◌≤◌, ◌⊎◌, inl, inr, ◌&&◌, ◌||◌, List, [], ◌∷◌, Bool, true, false, not, nat_lt, nat_le, if◌then◌else◌, Option, Some, None, is_some, is_none, unwrap_or, refl, sym, ap, subst, arith, ltb-false, le-leb, lt-leb, cases_lt, and_parts, and_from, eqb-true, or_parts, or-true, true≢false, false≢true, min, length, cond_both, not-true}
use Rattle.std.specs.List.{AllByRecursion}
use Rattle.yds_kernel.specs.declared.state.State.{State}
use Rattle.yds_kernel.specs.declared.state.State.TheVariants as states
use Rattle.yds_kernel.specs.declared.loss.Since.{Since}
use Rattle.yds_kernel.specs.declared.loss.Since.TheVariants as since
use Rattle.yds_kernel.specs.Event.{Thread, Happening, Switch, WakeUp, Speed, Loss, Marker, Other, Event, Said, Stamped, Lost, Nothing}
use Rattle.yds_trace.specs.declared.cut.Cut.{Cut}
use Rattle.yds_trace.specs.declared.fault.Cause.{Cause}
use Rattle.yds_trace.specs.declared.fault.Cause.TheVariants as causes
use Rattle.yds_trace.specs.declared.job.End.{End}
use Rattle.yds_trace.specs.declared.job.End.TheVariants as ends
use Rattle.yds_trace.specs.declared.job.Standing.{Standing}
use Rattle.yds_trace.specs.declared.job.Leaving.{Leaving}
use Rattle.yds_trace.specs.Asked.{Asked, task_at, task_of, pace_of, is_number, is_of, is_before_to, is_within_to}
use Rattle.yds_trace.specs.Past.{last_time, lost_since, is_loss, is_switch, last_switch, lines_since, has_switched, counts, is_first_switch, stayed, up_to_time, up_to, speed_after}
use Rattle.yds_trace.specs.Jobs.{Job, Known, missing_of, leaving_at, after_event, all_known, known_after}
use Rattle.yds_trace.specs.Late.{last_asked, due}
use Rattle.yds_trace.specs.Faults.{missing_at, missing_in, missing_stayed}
use Rattle.yds_trace.specs.Parts.{reaches_back, was_there_before, has_ended, last_begin, sleeps_before, woken_before, wakes_at, leaves_at, is_known_so, came_before, came_back, reaches_back_so, changes_parts, part_fault}
use Rattle.yds_trace.proofs.UpTo.{up_to_lost}
use Rattle.yds_trace_laws.proofs.Runs.{all_weaker}
use Rattle.yds_trace_laws.proofs.Sharing.{AreBy, GoesOn, up_to_by, counts_by, later_switch}
use Rattle.yds_trace_whole.proofs.Told.{Told, told, OfTold, Each, each_told, told_each}
use Rattle.yds_trace_whole.proofs.Going.{later_sound, StandsBy, IsRipeEnd, IsRipe, IsBack, Keeps, switch_keeps, woken_keeps, speeds_keeps, IsKnownBy, loses_keeps}
use Rattle.yds_trace_whole.proofs.Lines.{until, beyond, until_goes_on, beyond_goes_on, beyond_reached, until_before, until_most, lost_by, lost_same, lines_by, told_by, counting_by, lines_from}
use Rattle.yds_trace_whole.proofs.Missing.{missing_by, none_there, at_run_none}

-- # What holds

-- The end of a job of a part that was decided at this time, behind lines up to `last`, of which those up to `now` count: no line changes it any more.
-- Where events were lost, its deadline is over.
abbrev pub IsFirmEnd : ℕ → ℕ → ℕ → ℕ → ℕ → End → Type 0
IsFirmEnd now decided last ripe deadline ends.Open = ⊥
IsFirmEnd now decided last ripe deadline (ends.Ended end) = (end ≤ decided) × (ripe ≤ last)
IsFirmEnd now decided last ripe deadline (ends.Lost since) = (since ≤ decided) × (since < now) × (deadline ≤ now)

-- from when on no wake-up goes on with the job
abbrev pub ripe_from : Asked → ℕ → Job → ℕ
ripe_from asked number job = beyond asked.to (job.begin + (task_at asked number).apart)

abbrev pub IsFirm : Asked → List Said → ℕ → ℕ → Job → Type 0
IsFirm asked past decided number job =
    IsFirmEnd (last_asked asked past) decided (last_time past) (ripe_from asked number job) (due (task_at asked number) job) job.end

abbrev pub counted : Asked → List Said → ℕ → Known
counted asked past number = known_after asked number (up_to asked.to past)

-- what is told of the task's jobs that begin before the cut
abbrev pub told_of : Asked → List Said → Cut → ℕ → List Told
told_of asked past cut number = told cut.boundary (counted asked past number).jobs

pub record Holds (asked : Asked) (past : List Said) (cut : Cut) (number : ℕ) : Type 0 where
  pub keeps : Keeps cut.boundary (last_asked asked past) (told_of asked past cut number) (counted asked past number)
  pub firm : Each (IsFirm asked past cut.decided number) cut.boundary (counted asked past number).jobs

pub now_is : (asked : Asked) (past : List Said) → last_asked asked past ≡ until asked.to (last_time past)
now_is asked past = by asked.to
  where
    by : (to : Option ℕ) → (elim to [ None ↦ last_time past | Some to ↦ min to (last_time past) ]) ≡ until to (last_time past)
    by None = refl
    by (Some to) = refl

-- # Time goes on

abbrev GoesTo : Option ℕ → List Said → List Said → Type 0
GoesTo to past now = is_before_to to (last_time now) ≡ true → last_time past ≤ last_time now

goes_to : (to : Option ℕ) (said : Said) (past : List Said) → GoesOn to (said ∷ past) → GoesTo to past (said ∷ past)
goes_to to (Stamped event) past goes = goes.0
goes_to to (Lost processor reach) past goes = λ before. omega arith
goes_to to Nothing past goes = λ before. omega arith

pub goes_behind : (to : Option ℕ) (said : Said) (past : List Said) → GoesOn to (said ∷ past) → GoesOn to past
goes_behind to (Stamped event) past goes = goes.1
goes_behind to (Lost processor reach) past goes = goes
goes_behind to Nothing past goes = goes

pub now_goes_on : (asked : Asked) (said : Said) (past : List Said) → GoesOn asked.to (said ∷ past) → last_asked asked past ≤ last_asked asked (said ∷ past)
now_goes_on asked said past goes =
    omega (arith, until_goes_on asked.to (last_time past) (last_time (said ∷ past)) (goes_to asked.to said past goes), now_is asked past, now_is asked (said ∷ past))

firm_end : (now later decided last next ripe deadline : ℕ) (end : End) → now ≤ later → (ripe ≤ last → ripe ≤ next) → IsFirmEnd now decided last ripe deadline end →
    IsFirmEnd later decided next ripe deadline end
firm_end now later decided last next ripe deadline ends.Open on goes firm = firm
firm_end now later decided last next ripe deadline (ends.Ended end) on goes firm = (firm.0, goes firm.1)
firm_end now later decided last next ripe deadline (ends.Lost since) on goes firm = (firm.0, omega (arith, firm.1, on), omega (arith, firm.2, on))

-- What is firm stays firm.
firm_goes_on : (asked : Asked) (said : Said) (past : List Said) (decided number : ℕ) → GoesOn asked.to (said ∷ past) → (job : Job) →
    IsFirm asked past decided number job → IsFirm asked (said ∷ past) decided number job
firm_goes_on asked said past decided number goes job =
    firm_end (last_asked asked past) (last_asked asked (said ∷ past)) decided (last_time past) (last_time (said ∷ past)) (ripe_from asked number job)
    (due (task_at asked number) job) job.end
    (now_goes_on asked said past goes)
    (beyond_goes_on asked.to (last_time past) (last_time (said ∷ past)) (job.begin + (task_at asked number).apart) (goes_to asked.to said past goes))

-- # What a line may be

-- whether the thread is listed
listed : (asked : Asked) (number : ℕ) (thread : Thread) → is_of asked number thread ≡ true → is_some (task_of asked.tasks thread) ≡ true
listed asked number thread is = by (task_of asked.tasks thread) is
  where
    by : (o : Option ℕ) → is_number number o ≡ true → is_some o ≡ true
    by None is = cc
    by (Some other) is = refl

pub kept_for : (b : Bool) → ◌≡◌ {A = Option Cause} (if b then Some causes.PartWritten else None) None → b ≡ false
kept_for true none = cc
kept_for false none = refl

-- no loss reaches back before the parts were decided
reach_kept : (cut : Cut) (since : ℕ) → reaches_back cut since ≡ false → cut.decided ≤ since
reach_kept cut since kept = ltb-false since cut.decided kept

pub lost_kept : (asked : Asked) (past : List Said) (cut : Cut) (processor : ℕ) (reach : Since) → part_fault asked past cut (Lost processor reach) ≡ None →
    cut.decided ≤ lost_since processor reach past
lost_kept asked past cut processor reach none =
    reach_kept cut (lost_since processor reach past) (kept_for (changes_parts asked past cut (Lost processor reach)) none)

-- a thread that had its processor until `to`
abbrev pub staying : ℕ → ℕ → Thread → Event
staying processor to thread = record { processor = processor; time = to; happening = Switch thread states.GoesOn thread }

-- what an event isn't, behind these parts
record IsKept (asked : Asked) (past : List Said) (cut : Cut) (event : Event) : Type 0 where
  loss : is_loss event.happening ≡ true → cut.decided ≤ lost_since event.processor since.ItsLastLine past
  missing : reaches_back_so cut (missing_at asked past event) ≡ false
  there : was_there_before asked past cut event event.happening ≡ false
  back : came_back asked past cut event event.happening ≡ false

event_kept : (asked : Asked) (past : List Said) (cut : Cut) (event : Event) → part_fault asked past cut (Stamped event) ≡ None → IsKept asked past cut event
event_kept asked past cut event none =
    let neither = or_parts (is_loss event.happening && reaches_back cut (lost_since event.processor since.ItsLastLine past))
    (reaches_back_so cut (missing_at asked past event) || (was_there_before asked past cut event event.happening || came_back asked past cut event event.happening))
    (kept_for (changes_parts asked past cut (Stamped event)) none) in
    let whole = or_parts (reaches_back_so cut (missing_at asked past event))
    (was_there_before asked past cut event event.happening || came_back asked past cut event event.happening) neither.1 in
    let more = or_parts (was_there_before asked past cut event event.happening) (came_back asked past cut event event.happening) whole.1 in
    record {
      loss = λ is. reach_kept cut (lost_since event.processor since.ItsLastLine past)
          (subst (λ (b : Bool). (b && reaches_back cut (lost_since event.processor since.ItsLastLine past)) ≡ false) is neither.0);
      missing = whole.0;
      there = more.0;
      back = more.1;
    }

-- nor do switches that are missing
missing_kept : (cut : Cut) (found : Option ℕ) (s : ℕ) → reaches_back_so cut found ≡ false → found ≡ Some s → cut.decided ≤ s
missing_kept cut None s kept is = cc is
missing_kept cut (Some since) s kept is = let same : since ≡ s = cc is in omega (arith, same, reach_kept cut since kept)

-- since when they are, where the event counts
missing_counts : (asked : Asked) (past : List Said) (event : Event) → is_before_to asked.to event.time ≡ true →
    missing_at asked past event ≡ missing_in asked (up_to asked.to past) event event.happening
missing_counts asked past event before =
    ap (λ (b : Bool). if b then missing_in asked (up_to asked.to past) event event.happening
    else missing_stayed asked (unwrap_or asked.to event.time) (up_to asked.to past) event event.happening) before

-- and where it is a processor's first switch behind `to`
missing_stays : (asked : Asked) (past : List Said) (event : Event) (end : ℕ) (previous : Thread) (state : State) (next : Thread) → asked.to ≡ Some end → end < event.time →
    event.happening ≡ Switch previous state next → has_switched event.processor (up_to asked.to past) ≡ false → missing_at asked past event
    ≡ missing_of asked previous previous (leaving_at asked (up_to asked.to past) (staying event.processor end previous) previous) (all_known asked (up_to asked.to past)) 0 asked.tasks
missing_stays asked past event end previous state next is after switches first =
    let counting : List Said = up_to asked.to past in
    let behind : is_before_to asked.to event.time ≡ false = ap (λ (to : Option ℕ). is_before_to to event.time) is ∙ lt-leb event.time end after in
    ap (λ (b : Bool). if b then missing_in asked counting event event.happening
    else missing_stayed asked (unwrap_or asked.to event.time) counting event event.happening) behind
    ∙ ap (λ (to : Option ℕ). missing_stayed asked (unwrap_or to event.time) counting event event.happening) is
    ∙ ap (missing_stayed asked end counting event) switches
    ∙ ap (λ (b : Bool). if b then None
    else missing_of asked previous previous (leaving_at asked counting (record event { time = end }) previous) (all_known asked counting) 0 asked.tasks) first

-- A listed thread that leaves a processor, which hasn't switched, had no job before the parts' end.
there_since : (asked : Asked) (past : List Said) (cut : Cut) (event : Event) (previous : Thread) (state : State) (next : Thread) (number : ℕ) →
    was_there_before asked past cut event (Switch previous state next) ≡ false → is_of asked number previous ≡ true →
    has_switched event.processor (up_to asked.to past) ≡ false → cut.boundary ≤ lines_since event.processor event.time (up_to asked.to past)
there_since asked past cut event previous state next number none mine first =
    ltb-false (lines_since event.processor event.time (up_to asked.to past)) cut.boundary
    (subst (λ (b : Bool). (b && nat_lt (lines_since event.processor event.time (up_to asked.to past)) cut.boundary) ≡ false) (ap not first)
    (subst (λ (b : Bool). (b && not (has_switched event.processor (up_to asked.to past)) && nat_lt (lines_since event.processor event.time (up_to asked.to past)) cut.boundary) ≡ false)
    (listed asked number previous mine) none))

-- What isn't so of the task that a thread is.
not_so : (asked : Asked) (past : List Said) (number : ℕ) (thread : Thread) (test : Known → Bool) → is_known_so asked past thread test ≡ false →
    is_of asked number thread ≡ true → test (known_after asked number (up_to asked.to past)) ≡ false
not_so asked past number thread test none mine = by (task_of asked.tasks thread) none mine
  where
    by : (found : Option ℕ) → (elim found as (λ _. Bool) [ None ↦ false | Some other ↦ test (known_after asked other (up_to asked.to past)) ]) ≡ false →
        is_number number found ≡ true → test (known_after asked number (up_to asked.to past)) ≡ false
    by None none mine = cc mine
    by (Some other) none mine =
        let same : other ≡ number = eqb-true other number mine in
        subst (λ (n : ℕ). test (known_after asked n (up_to asked.to past)) ≡ false) same none

-- A thread that sleeps, without a wake-up since, has no job before the boundary.
not_before : (boundary : ℕ) (known : Known) → sleeps_before boundary known ≡ false → IsBack boundary known.woken known.jobs
not_before boundary known none = by known.jobs none
  where
    by : (jobs : List Job) → (known.woken.seen && has_ended jobs && nat_lt (last_begin jobs) boundary) ≡ false → IsBack boundary known.woken jobs
    by [] none = tt
    by (job ∷ jobs) none = λ end is seen.
        let over : has_ended (job ∷ jobs) ≡ true = ap (λ (e : End). elim e as (λ _. Bool) [
          | ends.Open ↦ false
          | ends.Ended end ↦ true
          | ends.Lost last ↦ false
        ]) is in
        ltb-false job.begin boundary
        (subst (λ (b : Bool). (b && nat_lt job.begin boundary) ≡ false) over
        (subst (λ (b : Bool). (b && has_ended (job ∷ jobs) && nat_lt job.begin boundary) ≡ false) seen none))

-- A listed thread that comes has no such job.
back_kept : (asked : Asked) (past : List Said) (cut : Cut) (event : Event) (previous : Thread) (state : State) (next : Thread) (number : ℕ) →
    came_back asked past cut event (Switch previous state next) ≡ false → is_before_to asked.to event.time ≡ true → not asked.begin_at_run ≡ true →
    is_of asked number next ≡ true → IsBack cut.boundary (counted asked past number).woken (counted asked past number).jobs
back_kept asked past cut event previous state next number none before wakes mine =
    let come = (or_parts (leaves_at asked past event && is_known_so asked past previous (came_before cut.boundary))
    (wakes_at asked event && is_known_so asked past next (sleeps_before cut.boundary)) none).1 in
    not_before cut.boundary (counted asked past number)
    (not_so asked past number next (sleeps_before cut.boundary)
    (subst (λ (b : Bool). (b && is_known_so asked past next (sleeps_before cut.boundary)) ≡ false) (and_from (is_before_to asked.to event.time) (not asked.begin_at_run) before wakes) come) mine)

-- Nor has one that leaves, wasn't seen to come, and was woken before it left to sleep.
own_kept : (asked : Asked) (past : List Said) (cut : Cut) (event : Event) (previous : Thread) (state : State) (next : Thread) (number at : ℕ) →
    came_back asked past cut event (Switch previous state next) ≡ false →
    (is_before_to asked.to event.time || not (has_switched event.processor (up_to asked.to past))) ≡ true → not asked.begin_at_run ≡ true →
    is_of asked number previous ≡ true → (counted asked past number).on ≡ None → (counted asked past number).woken.started ≡ Some at →
    IsBack cut.boundary (counted asked past number).woken (counted asked past number).jobs
own_kept asked past cut event previous state next number at none counts wakes mine off started =
    let left = (or_parts (leaves_at asked past event && is_known_so asked past previous (came_before cut.boundary))
    (wakes_at asked event && is_known_so asked past next (sleeps_before cut.boundary)) none).0 in
    not_before cut.boundary (counted asked past number)
    (subst (λ (found : Option ℕ). (is_some found && sleeps_before cut.boundary (counted asked past number)) ≡ false) started
    (subst (λ (on : Option Standing). (is_none on && woken_before cut.boundary (counted asked past number)) ≡ false) off
    (not_so asked past number previous (came_before cut.boundary)
    (subst (λ (b : Bool). (b && is_known_so asked past previous (came_before cut.boundary)) ≡ false)
    (and_from (not asked.begin_at_run) (is_before_to asked.to event.time || not (has_switched event.processor (up_to asked.to past))) wakes counts) left) mine)))

-- Nor has one whose wake-up is done that was started before it left to sleep.
half_kept : (asked : Asked) (past : List Said) (cut : Cut) (event : Event) (thread : Thread) (number at : ℕ) →
    came_back asked past cut event (WakeUp thread false) ≡ false → is_before_to asked.to event.time ≡ true → not asked.begin_at_run ≡ true →
    is_of asked number thread ≡ true → (counted asked past number).woken.started ≡ Some at →
    IsBack cut.boundary (counted asked past number).woken (counted asked past number).jobs
half_kept asked past cut event thread number at none before wakes mine started =
    not_before cut.boundary (counted asked past number)
    (subst (λ (found : Option ℕ). (is_some found && sleeps_before cut.boundary (counted asked past number)) ≡ false) started
    (not_so asked past number thread (woken_before cut.boundary)
    (subst (λ (b : Bool). (b && is_known_so asked past thread (woken_before cut.boundary)) ≡ false) (and_from (is_before_to asked.to event.time) (not asked.begin_at_run) before wakes) none) mine))

-- # One event among those that count

-- An event behind these that count: of a loss it is known since when it is, and of any other what was before it.
record IsNext (asked : Asked) (counting : List Said) (boundary now number : ℕ) (event : Event) (happening : Happening) : Type 0 where
  lost : is_loss happening ≡ true → (lost_since event.processor since.ItsLastLine counting ≤ now)
      × Each (λ job. IsKnownBy (lost_since event.processor since.ItsLastLine counting) job.end) boundary (known_after asked number counting).jobs
  late : is_loss happening ≡ false → boundary ≤ event.time
  by : is_loss happening ≡ false → event.time ≤ now
  at : is_loss happening ≡ false → now ≤ event.time
  whole : is_loss happening ≡ false → lines_since event.processor event.time counting ≤ now
  ripe : is_loss happening ≡ false → IsRipe boundary (task_at asked number).apart event.time (known_after asked number counting).jobs
  left : (previous : Thread) (state : State) (next : Thread) → happening ≡ Switch previous state next → is_of asked number previous ≡ true →
      has_switched event.processor counting ≡ false → boundary ≤ lines_since event.processor event.time counting
  missing : (previous : Thread) (state : State) (next : Thread) (s : ℕ) → happening ≡ Switch previous state next →
      missing_of asked previous next (leaving_at asked counting event previous) (all_known asked counting) 0 asked.tasks ≡ Some s →
      (boundary ≤ s) × (s ≤ now) × Each (λ job. IsKnownBy s job.end) boundary (known_after asked number counting).jobs
  own : (previous : Thread) (state : State) (next : Thread) (at : ℕ) → happening ≡ Switch previous state next → not asked.begin_at_run ≡ true → is_of asked number previous ≡ true →
      (known_after asked number counting).on ≡ None → (known_after asked number counting).woken.started ≡ Some at →
      IsBack boundary (known_after asked number counting).woken (known_after asked number counting).jobs
  back : (previous : Thread) (state : State) (next : Thread) → happening ≡ Switch previous state next → not asked.begin_at_run ≡ true → is_of asked number next ≡ true →
      IsBack boundary (known_after asked number counting).woken (known_after asked number counting).jobs
  half : (thread : Thread) (at : ℕ) → happening ≡ WakeUp thread false → not asked.begin_at_run ≡ true → is_of asked number thread ≡ true →
      (known_after asked number counting).woken.started ≡ Some at → IsBack boundary (known_after asked number counting).woken (known_after asked number counting).jobs

-- a processor that hasn't switched has no last switch
unswitched : (last : Option ℕ) → is_none last ≡ true → is_some last ≡ false
unswitched None first = refl
unswitched (Some time) first = cc first

next_keeps : (asked : Asked) (counting : List Said) (boundary now number : ℕ) (all : List Told) (event : Event) (happening : Happening) → number < length asked.tasks →
    IsNext asked counting boundary now number event happening → Keeps boundary now all (known_after asked number counting) →
    Keeps boundary now all (after_event asked number counting event happening (all_known asked counting))
next_keeps asked counting boundary now number all event (Switch previous state next) within is keeps =
    let leaving : Leaving = leaving_at asked counting event previous in
    switch_keeps boundary now all (pace_of (task_at asked number)) (not asked.begin_at_run) (is_of asked number previous) (is_of asked number next) state
    leaving (missing_of asked previous next leaving (all_known asked counting) 0 asked.tasks) (known_after asked number counting)
    (is.late refl) (is.by refl) (is.at refl) (is.whole refl)
    (λ mine first. is.left previous state next refl mine (unswitched (last_switch event.processor counting) first))
    (λ s found. is.missing previous state next s refl found)
    (λ none mine off. none_there asked previous next leaving (all_known asked counting) number within none mine off)
    (λ mine wakes off at started. is.own previous state next at refl wakes mine off started)
    (λ other comes. is.ripe refl) (λ other comes wakes. is.back previous state next refl wakes comes) (at_run_none asked number counting) keeps
next_keeps asked counting boundary now number all event (WakeUp thread starts) within is keeps =
    woken_keeps boundary now all (is_of asked number thread && not asked.begin_at_run) (pace_of (task_at asked number)) starts event.time (known_after asked number counting)
    (is.late refl) (is.by refl) (is.at refl) (is.ripe refl)
    (λ mine second at started.
    let both = and_parts (is_of asked number thread) (not asked.begin_at_run) mine in
    is.half thread at (ap (λ (b : Bool). WakeUp thread b) second) both.1 both.0 started) keeps
next_keeps asked counting boundary now number all event (Speed processor khz) within is keeps =
    speeds_keeps boundary now all processor event.time (speed_after asked.start processor counting) (known_after asked number counting) (is.by refl) (is.at refl) keeps
next_keeps asked counting boundary now number all event Loss within is keeps =
    loses_keeps boundary now all (lost_since event.processor since.ItsLastLine counting) (known_after asked number counting) (is.lost refl).0 (is.lost refl).1 keeps
next_keeps asked counting boundary now number all event Marker within is keeps = keeps
next_keeps asked counting boundary now number all event Other within is keeps = keeps

staying_keeps : (asked : Asked) (counting : List Said) (boundary now number : ℕ) (all : List Told) (processor to : ℕ) (thread : Thread) → number < length asked.tasks → boundary ≤ to →
    to ≤ now → now ≤ to → lines_since processor to counting ≤ now →
    (is_of asked number thread ≡ true → has_switched processor counting ≡ false → boundary ≤ lines_since processor to counting) →
    ((s : ℕ) → missing_of asked thread thread (leaving_at asked counting (staying processor to thread) thread) (all_known asked counting) 0 asked.tasks ≡ Some s →
    (boundary ≤ s) × (s ≤ now) × Each (λ job. IsKnownBy s job.end) boundary (known_after asked number counting).jobs) →
    ((at : ℕ) → not asked.begin_at_run ≡ true → is_of asked number thread ≡ true → (known_after asked number counting).on ≡ None →
    (known_after asked number counting).woken.started ≡ Some at → IsBack boundary (known_after asked number counting).woken (known_after asked number counting).jobs) →
    Keeps boundary now all (known_after asked number counting) →
    Keeps boundary now all (known_after asked number (Stamped (staying processor to thread) ∷ counting))
staying_keeps asked counting boundary now number all processor to thread within late by at whole left missing own keeps =
    let leaving : Leaving = leaving_at asked counting (staying processor to thread) thread in
    switch_keeps boundary now all (pace_of (task_at asked number)) (not asked.begin_at_run) (is_of asked number thread) (is_of asked number thread) states.GoesOn
    leaving (missing_of asked thread thread leaving (all_known asked counting) 0 asked.tasks) (known_after asked number counting) late by at whole
    (λ mine first. left mine (unswitched (last_switch processor counting) first)) missing
    (λ none mine off. none_there asked thread thread leaving (all_known asked counting) number within none mine off)
    (λ mine wakes off at started. own at wakes mine off started)
    (λ other comes. absurd (true≢false (sym comes ∙ other))) (λ other comes wakes. absurd (true≢false (sym comes ∙ other))) (at_run_none asked number counting) keeps

-- # Whether an event counts

-- It counts; or it is after `to`, and who leaves its processor had it until then; or it doesn't count.
pub by_counting : (to : Option ℕ) (event : Event) (past : List Said) (P : List Said → Type 0) →
    ((is_loss event.happening ≡ true → is_within_to to (lost_since event.processor since.ItsLastLine past) ≡ true) →
    (is_loss event.happening ≡ false → is_before_to to event.time ≡ true) → P (Stamped event ∷ up_to to past)) →
    ((end : ℕ) (previous : Thread) (state : State) (next : Thread) → to ≡ Some end → end < event.time → event.happening ≡ Switch previous state next →
    has_switched event.processor (up_to to past) ≡ false → P (Stamped (staying event.processor end previous) ∷ up_to to past)) →
    P (up_to to past) → P (up_to to (Stamped event ∷ past))
by_counting None event past P counts_it stays passes = counts_it (λ is. refl) (λ is. refl)
by_counting (Some end) event past P counts_it stays passes =
    cond_both (counts end event past) (Stamped event ∷ up_to_time end past)
    (if is_first_switch event (up_to_time end past) then stayed end event.processor event.happening ∷ up_to_time end past else up_to_time end past) P
    (λ is. counts_it (within is) (λ other. le-leb event.time end (counts_by end event past is other)))
    (λ no. cond_both (is_first_switch event (up_to_time end past)) (stayed end event.processor event.happening ∷ up_to_time end past) (up_to_time end past) P
    (λ first. switched event.happening refl
    (and_parts (is_switch event.happening) (not (has_switched event.processor (up_to_time end past))) first)
    (later_switch end event past (up_to_time end past) no first))
    (λ other. passes))
  where
    within : counts end event past ≡ true → is_loss event.happening ≡ true → nat_lt (lost_since event.processor since.ItsLastLine past) end ≡ true
    within is loss = subst (λ (b : Bool). (if b then nat_lt (lost_since event.processor since.ItsLastLine past) end else nat_le event.time end) ≡ true) loss is

    switched : (happening : Happening) → event.happening ≡ happening →
        (is_switch event.happening ≡ true) × (not (has_switched event.processor (up_to_time end past)) ≡ true) → end < event.time →
        P (stayed end event.processor event.happening ∷ up_to_time end past)
    switched (Switch previous state next) is both later =
        subst (λ (h : Happening). P (stayed end event.processor h ∷ up_to_time end past)) (sym is)
        (stays end previous state next refl later is (not-true (has_switched event.processor (up_to_time end past)) both.1))
    switched (WakeUp thread starts) is both later = absurd (let no : false ≡ true = ap is_switch (sym is) ∙ both.0 in false≢true no)
    switched (Speed processor khz) is both later = absurd (let no : false ≡ true = ap is_switch (sym is) ∙ both.0 in false≢true no)
    switched Loss is both later = absurd (let no : false ≡ true = ap is_switch (sym is) ∙ both.0 in false≢true no)
    switched Marker is both later = absurd (let no : false ≡ true = ap is_switch (sym is) ∙ both.0 in false≢true no)
    switched Other is both later = absurd (let no : false ≡ true = ap is_switch (sym is) ∙ both.0 in false≢true no)

-- # One line

keeps_later : (boundary now later : ℕ) (all : List Told) (known : Known) → now ≤ later → Keeps boundary now all known → Keeps boundary later all known
keeps_later boundary now later all known on keeps =
    record {
      told = keeps.told;
      sound = later_sound now later known.jobs on keeps.sound;
      last = keeps.last;
      stands = by known.on keeps.stands;
      started = λ at is. ((keeps.started at is).0, omega (arith, on, (keeps.started at is).1), (keeps.started at is).2);
    }
  where
    by : (standing : Option Standing) → StandsBy now standing known.jobs → StandsBy later standing known.jobs
    by None stands = tt
    by (Some standing) stands = (stands.0, stands.1, stands.2, omega (arith, on, stands.3))

known_end : (now decided last ripe deadline since : ℕ) (end : End) → decided ≤ since → IsFirmEnd now decided last ripe deadline end → IsKnownBy since end
known_end now decided last ripe deadline since ends.Open back firm = firm
known_end now decided last ripe deadline since (ends.Ended end) back firm = omega (arith, back, firm.0)
known_end now decided last ripe deadline since (ends.Lost last_seen) back firm = omega (arith, back, firm.0)

-- A loss since a time from when on the parts were decided: all ends are known.
ends_known : (asked : Asked) (past : List Said) (cut : Cut) (number since : ℕ) → cut.decided ≤ since → Holds asked past cut number →
    Each (λ job. IsKnownBy since job.end) cut.boundary (counted asked past number).jobs
ends_known asked past cut number since back holds =
    all_weaker (λ (job : Job). job.begin < cut.boundary → IsFirm asked past cut.decided number job) (λ (job : Job). job.begin < cut.boundary → IsKnownBy since job.end)
    (λ job firm early.
    known_end (last_asked asked past) cut.decided (last_time past) (ripe_from asked number job) (due (task_at asked number) job) since job.end back (firm early))
    (counted asked past number).jobs holds.firm

-- The last job, where it is of a part, is ripe by the time of the next event.
last_ripe : (asked : Asked) (past : List Said) (cut : Cut) (number time : ℕ) → last_time past ≤ time → is_before_to asked.to time ≡ true → Holds asked past cut number →
    IsRipe cut.boundary (task_at asked number).apart time (counted asked past number).jobs
last_ripe asked past cut number time on before holds = by (counted asked past number).jobs holds.firm
  where
    ended : (until_then deadline : ℕ) (end : End) → IsFirmEnd (last_asked asked past) cut.decided (last_time past) (beyond asked.to until_then) deadline end →
        IsRipeEnd until_then time end
    ended until_then deadline ends.Open firm = tt
    ended until_then deadline (ends.Ended end) firm = beyond_reached asked.to until_then time before (omega (arith, on, firm.1))
    ended until_then deadline (ends.Lost since) firm = tt

    by : (jobs : List Job) → Each (IsFirm asked past cut.decided number) cut.boundary jobs → IsRipe cut.boundary (task_at asked number).apart time jobs
    by [] firm = tt
    by (job ∷ jobs) firm = which (cases_lt job.begin cut.boundary)
      where
        which : (job.begin < cut.boundary) ⊎ (cut.boundary ≤ job.begin) → IsRipe cut.boundary (task_at asked number).apart time (job ∷ jobs)
        which (inl early) = inr (ended (job.begin + (task_at asked number).apart) (due (task_at asked number) job) job.end (firm.0 early))
        which (inr late) = inl late

module _ (asked : Asked) (past : List Said) (cut : Cut) (number : ℕ) (within : number < length asked.tasks) (begun : cut.boundary ≤ last_asked asked past)
    (decided : cut.boundary ≤ cut.decided) (holds : Holds asked past cut number) where
  by_time : (time : ℕ) → last_time past ≤ time → cut.boundary ≤ time
  by_time time on = omega (arith, begun, on, now_is asked past, until_most asked.to (last_time past))

  counted_keeps : (event : Event) → GoesOn asked.to (Stamped event ∷ past) → IsKept asked past cut event →
      (is_loss event.happening ≡ true → is_within_to asked.to (lost_since event.processor since.ItsLastLine past) ≡ true) →
      (is_loss event.happening ≡ false → is_before_to asked.to event.time ≡ true) →
      Keeps cut.boundary (last_asked asked (Stamped event ∷ past)) (told_of asked past cut number) (known_after asked number (Stamped event ∷ up_to asked.to past))
  counted_keeps event goes kept lost before =
      next_keeps asked (up_to asked.to past) cut.boundary later number (told_of asked past cut number) event event.happening within
      (record {
        lost = λ loss.
            let same : lost_since event.processor since.ItsLastLine (up_to asked.to past) ≡ lost_since event.processor since.ItsLastLine past =
            lost_same asked.to event.processor since.ItsLastLine past goes.1 (lost loss) in (
              omega (arith, same, lost_by asked.to past event.processor since.ItsLastLine goes.1 (lost loss), now_is asked past, on),
              ends_known asked past cut number (lost_since event.processor since.ItsLastLine (up_to asked.to past)) (omega (arith, same, kept.loss loss)) holds,
            );
        late = λ other. by_time event.time (goes.0 (before other));
        by = λ other. here other;
        at = λ other. omega (arith, until_before asked.to event.time (before other), now_is asked (Stamped event ∷ past));
        whole = λ other.
            omega (
              arith,
              here other,
              lines_by event.time event.processor event.time (up_to asked.to past) (omega arith)
                  (counting_by asked.to past event.time goes.1 (goes.0 (before other)) (before other)),
            );
        ripe = λ other. last_ripe asked past cut number event.time (goes.0 (before other)) (before other) holds;
        left = λ previous state next is mine first.
            there_since asked past cut event previous state next number
            (subst (λ (h : Happening). was_there_before asked past cut event h ≡ false) is kept.there) mine first;
        missing = λ previous state next s is found.
            let back : cut.decided ≤ s = missing_kept cut (missing_at asked past event) s kept.missing
            (missing_counts asked past event (before (ap is_loss is)) ∙ ap (missing_in asked (up_to asked.to past) event) is ∙ found) in (
              omega (arith, decided, back),
              omega (
                arith,
                here (ap is_loss is),
                missing_by asked previous next (leaving_at asked (up_to asked.to past) event previous) (all_known asked (up_to asked.to past)) 0 asked.tasks s found,
                told_by event.time event.processor event.time (up_to asked.to past) (omega arith)
                    (counting_by asked.to past event.time goes.1 (goes.0 (before (ap is_loss is))) (before (ap is_loss is))),
              ),
              ends_known asked past cut number s back holds,
            );
        own = λ previous state next at is wakes mine off started.
            own_kept asked past cut event previous state next number at (subst (λ (h : Happening). came_back asked past cut event h ≡ false) is kept.back)
            (ap (λ (b : Bool). b || not (has_switched event.processor (up_to asked.to past))) (before (ap is_loss is))) wakes mine off started;
        back = λ previous state next is wakes mine.
            back_kept asked past cut event previous state next number (subst (λ (h : Happening). came_back asked past cut event h ≡ false) is kept.back)
            (before (ap is_loss is)) wakes mine;
        half = λ thread at is wakes mine started.
            half_kept asked past cut event thread number at (subst (λ (h : Happening). came_back asked past cut event h ≡ false) is kept.back)
            (before (ap is_loss is)) wakes mine started;
      })
      (keeps_later cut.boundary (last_asked asked past) later (told_of asked past cut number) (counted asked past number) on holds.keeps)
    where
      later : ℕ
      later = last_asked asked (Stamped event ∷ past)

      on : last_asked asked past ≤ later
      on = now_goes_on asked (Stamped event) past goes

      here : is_loss event.happening ≡ false → event.time ≤ later
      here other = omega (arith, until_before asked.to event.time (before other), now_is asked (Stamped event ∷ past))

  stamped_keeps : (event : Event) → GoesOn asked.to (Stamped event ∷ past) → IsKept asked past cut event →
      Keeps cut.boundary (last_asked asked (Stamped event ∷ past)) (told_of asked past cut number) (counted asked (Stamped event ∷ past) number)
  stamped_keeps event goes kept =
      let later : ℕ = last_asked asked (Stamped event ∷ past) in
      let on : last_asked asked past ≤ later = now_goes_on asked (Stamped event) past goes in
      let same : Keeps cut.boundary later (told_of asked past cut number) (counted asked past number) =
      keeps_later cut.boundary (last_asked asked past) later (told_of asked past cut number) (counted asked past number) on holds.keeps in
      by_counting asked.to event past (λ (counting : List Said). Keeps cut.boundary later (told_of asked past cut number) (known_after asked number counting))
      (counted_keeps event goes kept)
      (λ end previous state next is after switches first.
      let most : (time : ℕ) → until asked.to time ≤ end = (λ time. subst (λ (to : Option ℕ). until to time ≤ end) (sym is) (omega arith)) in
      let reached : until asked.to event.time ≡ end = subst (λ (to : Option ℕ). until to event.time ≡ end) (sym is) (omega (arith, after)) in
      let low : cut.boundary ≤ end = omega (arith, begun, now_is asked past, most (last_time past)) in
      let now : later ≡ end = now_is asked (Stamped event ∷ past) ∙ reached in
      let lines : AreBy end (up_to asked.to past) = subst (λ (to : Option ℕ). AreBy end (up_to to past)) (sym is) (up_to_by end past) in
      staying_keeps asked (up_to asked.to past) cut.boundary later number (told_of asked past cut number) event.processor end previous within low (omega (arith, now)) (omega (arith, now))
      (omega (arith, now, lines_by end event.processor end (up_to asked.to past) (omega arith) lines))
      (λ mine unswitched. lines_from cut.boundary event.processor end event.time (up_to asked.to past) low
      (there_since asked past cut event previous state next number (subst (λ (h : Happening). was_there_before asked past cut event h ≡ false) switches kept.there) mine unswitched))
      (λ s found.
      let back : cut.decided ≤ s = missing_kept cut (missing_at asked past event) s kept.missing (missing_stays asked past event end previous state next is after switches first ∙ found) in (
        omega (arith, decided, back),
        omega (
          arith,
          now,
          missing_by asked previous previous (leaving_at asked (up_to asked.to past) (staying event.processor end previous) previous) (all_known asked (up_to asked.to past)) 0 asked.tasks s
              found,
          told_by end event.processor end (up_to asked.to past) (omega arith) lines,
        ),
        ends_known asked past cut number s back holds,
      ))
      (λ at wakes mine off started.
      own_kept asked past cut event previous state next number at (subst (λ (h : Happening). came_back asked past cut event h ≡ false) switches kept.back)
      (ap (λ (b : Bool). is_before_to asked.to event.time || not b) first ∙ or-true (is_before_to asked.to event.time)) wakes mine off started)
      same)
      same

  lost_keeps : (processor : ℕ) (reach : Since) → GoesOn asked.to past → cut.decided ≤ lost_since processor reach past →
      Keeps cut.boundary (last_asked asked past) (told_of asked past cut number) (counted asked (Lost processor reach ∷ past) number)
  lost_keeps processor reach goes back =
      subst (λ (counting : List Said). Keeps cut.boundary (last_asked asked past) (told_of asked past cut number) (known_after asked number counting))
      (sym (up_to_lost asked.to processor reach past))
      (cond_both (is_within_to asked.to (lost_since processor reach past)) (Lost processor reach ∷ up_to asked.to past) (up_to asked.to past)
      (λ (counting : List Said). Keeps cut.boundary (last_asked asked past) (told_of asked past cut number) (known_after asked number counting))
      (λ lost.
      let same : lost_since processor reach (up_to asked.to past) ≡ lost_since processor reach past = lost_same asked.to processor reach past goes lost in
      loses_keeps cut.boundary (last_asked asked past) (told_of asked past cut number) (lost_since processor reach (up_to asked.to past)) (counted asked past number)
      (omega (arith, same, lost_by asked.to past processor reach goes lost, now_is asked past))
      (ends_known asked past cut number (lost_since processor reach (up_to asked.to past)) (omega (arith, same, back)) holds) holds.keeps)
      (λ other. holds.keeps))

  -- A line that isn't refused leaves all that is told.
  pub line_keeps : (said : Said) → GoesOn asked.to (said ∷ past) → part_fault asked past cut said ≡ None →
      Keeps cut.boundary (last_asked asked (said ∷ past)) (told_of asked past cut number) (counted asked (said ∷ past) number)
  line_keeps (Stamped event) goes none = stamped_keeps event goes (event_kept asked past cut event none)
  line_keeps (Lost processor reach) goes none = lost_keeps processor reach goes (lost_kept asked past cut processor reach none)
  line_keeps Nothing goes none =
      subst (λ (known : Known). Keeps cut.boundary (last_asked asked past) (told_of asked past cut number) known) (nothing_counts asked.to) holds.keeps
    where
      nothing_counts : (to : Option ℕ) → known_after asked number (up_to to past) ≡ known_after asked number (up_to to (Nothing ∷ past))
      nothing_counts None = refl
      nothing_counts (Some end) = refl

  pub line_holds : (said : Said) → GoesOn asked.to (said ∷ past) → part_fault asked past cut said ≡ None → Holds asked (said ∷ past) cut number
  line_holds said goes none =
      let keeps : Keeps cut.boundary (last_asked asked (said ∷ past)) (told_of asked past cut number) (counted asked (said ∷ past) number) = line_keeps said goes none in
      let firm : Each (IsFirm asked (said ∷ past) cut.decided number) cut.boundary (counted asked past number).jobs =
      all_weaker (λ (job : Job). job.begin < cut.boundary → IsFirm asked past cut.decided number job)
      (λ (job : Job). job.begin < cut.boundary → IsFirm asked (said ∷ past) cut.decided number job)
      (λ job is early. firm_goes_on asked said past cut.decided number goes job (is early)) (counted asked past number).jobs holds.firm in
      record {
        keeps = record { told = refl; sound = keeps.sound; last = keeps.last; stands = keeps.stands; started = keeps.started };
        firm = told_each (IsFirm asked (said ∷ past) cut.decided number) cut.boundary (counted asked (said ∷ past) number).jobs
            (subst (AllByRecursion (OfTold (IsFirm asked (said ∷ past) cut.decided number))) (sym keeps.told)
            (each_told (IsFirm asked (said ∷ past) cut.decided number) cut.boundary (counted asked past number).jobs firm));
      }
