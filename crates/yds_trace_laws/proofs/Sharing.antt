-- No two tasks have a processor at the same time: each stretch begins when all of the others there have ended.
use Rattle.yds_model.proofs.Common.{◌≡◌, ◌≢◌, ◌∙◌, ℕ, ◌+◌, ◌<◌, ◌≤◌, inl, inr, ◌&&◌, ◌||◌, ◌==◌, cond, List, [], ◌∷◌, map, reverse, min, length, position, Bool, true, false, not, nat_lt, nat_le, if◌then◌else◌, Option, Some, None, is_some, is_none, refl, sym, ap, arith, subst, cases_Bool, cases_lt, and_parts, eqb-true, eq-eqb, true≢false, ltb-false, leb-true, leb-false, le-leb, All, All-from_recursion}
use Rattle.std.specs.List.{AllByRecursion, position_or_len}
use Rattle.std.proofs.lemmas.Bool.{ltb-true}
use Rattle.yds_kernel.specs.Parts.{or_else}
use Rattle.yds_kernel.specs.declared.state.State.{State}
use Rattle.yds_kernel.specs.declared.state.State.TheVariants as states
use Rattle.yds_kernel.specs.declared.loss.Since.TheVariants as since
use Rattle.yds_kernel.specs.Event.{Thread, Happening, Switch, WakeUp, Speed, Loss, Marker, Other, Event, Said, Stamped, Lost, Nothing}
use Rattle.yds_trace.specs.declared.job.End.{End}
use Rattle.yds_trace.specs.declared.job.End.TheVariants as ends
use Rattle.yds_trace.specs.declared.job.Stretch.{Stretch}
use Rattle.yds_trace.specs.declared.job.Standing.{Standing}
use Rattle.yds_trace.specs.declared.job.Leaving.{Leaving}
use Rattle.yds_trace.specs.declared.job.Pace.{Pace}
use Rattle.yds_trace.specs.declared.job.Woken.{Woken}
use Rattle.yds_trace.specs.Asked.{Task, Asked, task_at, task_of, pace_of, is_number, is_numbered, is_named, is_of, is_before_to}
use Rattle.yds_trace.specs.declared.fault.Cause.{Cause}
use Rattle.yds_trace.specs.declared.fault.Cause.TheVariants as causes
use Rattle.yds_trace.specs.Past.{last_time, is_loss, is_switch, lines_since, last_switch, has_switched, lost_since, counts, is_first_switch, stayed, up_to_time, up_to, speed_after}
use Rattle.yds_trace.specs.Faults.{first_fault, numbered, said_fault, stamped_fault, behind_fault, place_fault, length_fault, threads_fault, event_fault, stayed_fault, happening_fault, loss_fault}
use Rattle.yds_trace.specs.Late.{last_asked}
use Rattle.yds_trace.specs.Document.{closed}
use Rattle.yds_trace.specs.Jobs.{Job, Known, began, began_behind, reopened, woken_after, counted as counted_job, woken_jobs, went_on, unended, back_jobs, come_jobs, running_jobs, found_jobs, changed_last, ended, exits, missing, ran, loses, torn_jobs, torn, torn_if, is_displaced, missing_since, last_told, is_there, comes, begun_by, begun_at_most, stretch_of, left_unseen, left_from, left_in, woken_at, wakes_up, speeds, lost_job, leaving_at, earlier, missing_of, left_if, after_switch, after_event, all_known, known_after}
use Rattle.yds_trace_laws.specs.Sharing.{AreApart, EachStretch}
use Rattle.yds_trace_laws.specs.Laws.{TasksHaveOwnTime}
use Rattle.yds_trace_laws.proofs.Begins.{or_none, numbered_none}
use Rattle.yds_trace_laws.proofs.Runs.{all_weaker, reverse-all}

-- # Each stretch of some jobs

abbrev pub Ran : (Stretch → Type 0) → List Job → Type 0
Ran P jobs = AllByRecursion (λ job. AllByRecursion P job.stretches) jobs

if_ran : (P : Stretch → Type 0) (b : Bool) (jobs others : List Job) → Ran P jobs → Ran P others → Ran P (if b then jobs else others)
if_ran P true jobs others all other = all
if_ran P false jobs others all other = other

if_known : (P : Stretch → Type 0) (b : Bool) (known other : Known) → Ran P known.jobs → Ran P other.jobs → Ran P (if b then known else other).jobs
if_known P true known other all others = all
if_known P false known other all others = others

by_end : (P : Stretch → Type 0) (end : End) (whole : List Job) (ended : ℕ → List Job) (lost : ℕ → List Job) →
    Ran P whole → ((time : ℕ) → Ran P (ended time)) → ((time : ℕ) → Ran P (lost time)) →
    Ran P (elim end [ ends.Open ↦ whole | ends.Ended time ↦ ended time | ends.Lost time ↦ lost time ])
by_end P ends.Open whole ended lost a b c = a
by_end P (ends.Ended time) whole ended lost a b c = b time
by_end P (ends.Lost time) whole ended lost a b c = c time

-- a job that is changed, but not its stretches
changed_ran : (P : Stretch → Type 0) (change : Job → Job) → ((job : Job) → AllByRecursion P job.stretches → AllByRecursion P (change job).stretches) → (jobs : List Job) →
    Ran P jobs → Ran P (changed_last change jobs)
changed_ran P change keeps [] all = tt
changed_ran P change keeps (job ∷ jobs) all = (keeps job all.0, all.1)

-- one stretch more
more_ran : (P : Stretch → Type 0) (stretch : Stretch) (jobs : List Job) → P stretch → Ran P jobs → Ran P (changed_last (ran stretch) jobs)
more_ran P stretch jobs has all = changed_ran P (ran stretch) (λ job rest. (has, rest)) jobs all

woken_after_ran : (P : Stretch → Type 0) (pace : Pace) (time : ℕ) (job : Job) (jobs : List Job) → Ran P (job ∷ jobs) → Ran P (woken_after pace time job jobs)
woken_after_ran P pace time job jobs all =
    if_ran P (not (nat_lt time (job.begin + pace.apart))) (began_behind pace.period time job jobs)
    (if job.begin_known then reopened job ∷ jobs else began time false (job ∷ jobs)) (tt, all)
    (if_ran P job.begin_known (reopened job ∷ jobs) (began time false (job ∷ jobs)) all (tt, all))

again_ran : (P : Stretch → Type 0) (again : Bool) (job : Job) → AllByRecursion P job.stretches → AllByRecursion P (counted_job again job).stretches
again_ran P true job all = all
again_ran P false job all = all

woken_ran : (P : Stretch → Type 0) (pace : Pace) (time : ℕ) (again : Bool) (jobs : List Job) → Ran P jobs → Ran P (woken_jobs pace time again jobs)
woken_ran P pace time again [] all = (tt, tt)
woken_ran P pace time again (job ∷ jobs) all =
    by_end P job.end (counted_job again job ∷ jobs) (λ end. woken_after pace time job jobs) (λ last. began time true (job ∷ jobs))
    (again_ran P again job all.0, all.1) (λ end. woken_after_ran P pace time job jobs all) (λ last. (tt, all))

back_ran : (P : Stretch → Type 0) (pace : Pace) (time end : ℕ) (ever : Bool) (started : Option ℕ) (job : Job) (jobs : List Job) → Ran P (job ∷ jobs) →
    Ran P (back_jobs pace time end ever started job jobs)
back_ran P pace time end ever None job jobs all = if_ran P (ever && is_none job.slept) (went_on end job ∷ jobs) (began time false (unended end job ∷ jobs)) all (tt, all)
back_ran P pace time end ever (Some woken) job jobs all = woken_after_ran P pace woken job jobs all

come_ran : (P : Stretch → Type 0) (pace : Pace) (time : ℕ) (woken : Woken) (jobs : List Job) → Ran P jobs → Ran P (come_jobs pace time woken jobs)
come_ran P pace time woken [] all = (tt, tt)
come_ran P pace time woken (job ∷ jobs) all =
    by_end P job.end (job ∷ jobs) (λ end. if woken.seen then back_jobs pace time end woken.ever woken.started job jobs else began time false (job ∷ jobs))
    (λ last. began time false (job ∷ jobs)) all
    (λ end. if_ran P woken.seen (back_jobs pace time end woken.ever woken.started job jobs) (began time false (job ∷ jobs))
    (back_ran P pace time end woken.ever woken.started job jobs all) (tt, all))
    (λ last. (tt, all))

running_ran : (P : Stretch → Type 0) (pace : Pace) (time : ℕ) (jobs : List Job) → Ran P jobs → Ran P (running_jobs pace time jobs)
running_ran P pace time [] all = (tt, tt)
running_ran P pace time (job ∷ jobs) all =
    by_end P job.end (job ∷ jobs) (λ end. woken_after pace time job jobs) (λ last. began time false (job ∷ jobs))
    all (λ end. woken_after_ran P pace time job jobs all) (λ last. (tt, all))

found_ran : (P : Stretch → Type 0) (time : ℕ) (certain : Bool) (jobs : List Job) → Ran P jobs → Ran P (found_jobs time certain jobs)
found_ran P time certain [] all = (tt, tt)
found_ran P time certain (job ∷ jobs) all =
    by_end P job.end (job ∷ jobs) (λ end. began time certain (job ∷ jobs)) (λ last. began time certain (job ∷ jobs)) all (λ end. (tt, all)) (λ last. (tt, all))

begun_at_ran : (P : Stretch → Type 0) (time : ℕ) (job : Job) → AllByRecursion P job.stretches → AllByRecursion P (begun_at_most time job).stretches
begun_at_ran P time job all = by (nat_lt time job.begin)
  where
    by : (b : Bool) → AllByRecursion P (if b then record job { begin = time; begin_known = false; due_from = time } else job).stretches
    by true = all
    by false = all

begun_ran : (P : Stretch → Type 0) (time : ℕ) (jobs : List Job) → Ran P jobs → Ran P (begun_by time jobs)
begun_ran P time [] all = (tt, tt)
begun_ran P time (job ∷ jobs) all =
    by_end P job.end (begun_at_most time job ∷ jobs) (λ end. began time false (job ∷ jobs)) (λ last. began time false (job ∷ jobs))
    (begun_at_ran P time job all.0, all.1) (λ end. (tt, all)) (λ last. (tt, all))

comes_ran : (P : Stretch → Type 0) (pace : Pace) (wakes : Bool) (processor time : ℕ) (known : Known) → Ran P known.jobs → Ran P (comes pace wakes processor time known).jobs
comes_ran P pace wakes processor time known all =
    if_ran P wakes (come_jobs pace time known.woken known.jobs) (running_jobs pace time known.jobs)
    (come_ran P pace time known.woken known.jobs all) (running_ran P pace time known.jobs all)

left_in_ran : (P : Stretch → Type 0) (state : State) (time : ℕ) (jobs : List Job) → Ran P jobs → Ran P (left_in state time jobs)
left_in_ran P states.GoesOn time jobs all = all
left_in_ran P states.Sleeps time jobs all = changed_ran P (ended time) (λ job is. is) jobs all
left_in_ran P states.Exits time jobs all = changed_ran P (exits time) (λ job is. is) jobs all
left_in_ran P states.Unknown time jobs all = changed_ran P (lost_job time) (λ job is. is) jobs all

pub lost_ran : (P : Stretch → Type 0) (time : ℕ) (jobs : List Job) → Ran P jobs → Ran P (map (lost_job time) jobs)
lost_ran P time [] all = tt
lost_ran P time (job ∷ jobs) all = (all.0, lost_ran P time jobs all.1)

-- What is missing before a switch takes no stretch away.
torn_ran : (P : Stretch → Type 0) (left came : Bool) (processor since : ℕ) (known : Known) → Ran P known.jobs → Ran P (torn left came processor since known).jobs
torn_ran P left came processor since known all = by known.on
  where
    by : (on : Option Standing) → (let after : Known = elim on [
      | None ↦ loses since known
      | Some standing ↦ if left || came || (standing.processor == processor) then loses since known
          else record known { jobs = torn_jobs since standing.came known.jobs }
    ] in Ran P after.jobs)
    by None = lost_ran P since known.jobs all
    by (Some standing) =
        if_known P (left || came || (standing.processor == processor)) (loses since known) (record known { jobs = torn_jobs since standing.came known.jobs })
        (lost_ran P since known.jobs all)
        (if_ran P (nat_lt since standing.came) (began standing.came false (map (lost_job since) known.jobs)) known.jobs (tt, lost_ran P since known.jobs all) all)

-- # A stretch more

-- When a thread leaves a processor, before which no switch is missing: it came there, or nobody switched there before.
pub data IsLeft (known : Known) (leaving : Leaving) (stretch : Stretch) : Type 0 where
  Came : (standing : Standing) (on : known.on ≡ Some standing) (is : stretch ≡ stretch_of leaving standing.since) → IsLeft known leaving stretch
  Unseen : (first : is_none leaving.switched ≡ true) (is : stretch ≡ stretch_of leaving leaving.lines_since) → IsLeft known leaving stretch

left_unseen_ran : (P : Stretch → Type 0) (pace : Pace) (wakes torn : Bool) (leaving : Leaving) (known : Known) → Ran P known.jobs →
    (torn ≡ false → is_none leaving.switched ≡ true → P (stretch_of leaving leaving.lines_since)) → Ran P (left_unseen pace wakes torn leaving known)
left_unseen_ran P pace wakes torn leaving known all new =
    if_ran P leaving.renamed (found_jobs leaving.time true known.jobs)
    (if not torn && is_none leaving.switched && not known.woken.seen then there else gone) (found_ran P leaving.time true known.jobs all)
    (by (not torn && is_none leaving.switched && not known.woken.seen) refl)
  where
    there : List Job
    there = changed_last (ran (stretch_of leaving leaving.lines_since)) (begun_by leaving.lines_since known.jobs)

    gone : List Job
    gone = changed_last missing (if wakes then come_jobs pace leaving.time known.woken known.jobs else found_jobs leaving.time false known.jobs)

    not_false : (b : Bool) → not b ≡ true → b ≡ false
    not_false true so = cc
    not_false false so = refl

    by : (b : Bool) → (not torn && is_none leaving.switched && not known.woken.seen) ≡ b → Ran P (if b then there else gone)
    by true is =
        let parts = and_parts (not torn && is_none leaving.switched) (not known.woken.seen) is in
        let two = and_parts (not torn) (is_none leaving.switched) parts.0 in
        more_ran P (stretch_of leaving leaving.lines_since) (begun_by leaving.lines_since known.jobs) (new (not_false torn two.0) two.1)
        (begun_ran P leaving.lines_since known.jobs all)
    by false is =
        changed_ran P missing (λ job own. own) (if wakes then come_jobs pace leaving.time known.woken known.jobs else found_jobs leaving.time false known.jobs)
        (if_ran P wakes (come_jobs pace leaving.time known.woken known.jobs) (found_jobs leaving.time false known.jobs)
        (come_ran P pace leaving.time known.woken known.jobs all) (found_ran P leaving.time false known.jobs all))

left_from_ran : (P : Stretch → Type 0) (pace : Pace) (wakes : Bool) (leaving : Leaving) (known : Known) → Ran P known.jobs →
    ((stretch : Stretch) → IsLeft known leaving stretch → P stretch) → Ran P (left_from pace wakes false leaving known)
left_from_ran P pace wakes leaving known all new = by known.on refl
  where
    by : (on : Option Standing) → known.on ≡ on → Ran P (elim on [
      | None ↦ left_unseen pace wakes false leaving known
      | Some standing ↦ changed_last (ran (stretch_of leaving standing.since)) known.jobs
    ])
    by None on = left_unseen_ran P pace wakes false leaving known all (λ whole first. new (stretch_of leaving leaving.lines_since) (Unseen first refl))
    by (Some standing) on = more_ran P (stretch_of leaving standing.since) known.jobs (new (stretch_of leaving standing.since) (Came standing on refl)) all

-- A thread that leaves is lost, where a switch is missing before that.
torn_left : (came : Bool) (processor since : ℕ) (known : Known) → torn true came processor since known ≡ loses since known
torn_left came processor since known = by known.on
  where
    by : (on : Option Standing) → ◌≡◌ {A = Known} (elim on [
      | None ↦ loses since known
      | Some standing ↦ if true || came || (standing.processor == processor) then loses since known
          else record known { jobs = torn_jobs since standing.came known.jobs }
    ]) (loses since known)
    by None = refl
    by (Some standing) = refl

pub switch_ran : (P : Stretch → Type 0) (pace : Pace) (wakes left came : Bool) (state : State) (leaving : Leaving) (since : Option ℕ) (known : Known) → Ran P known.jobs →
    (left ≡ true → since ≡ None → (stretch : Stretch) → IsLeft known leaving stretch → P stretch) → Ran P (after_switch pace wakes left came state leaving since known).jobs
switch_ran P pace wakes left came state leaving since known all new =
    let after : Known = left_if pace wakes (is_some since) left state leaving (torn_if left came leaving.processor since known) in
    let gone : Ran P after.jobs = by left since new in
    if_known P came (comes pace wakes leaving.processor leaving.time after) after (comes_ran P pace wakes leaving.processor leaving.time after gone) gone
  where
    by : (left : Bool) (since : Option ℕ) → (left ≡ true → since ≡ None → (stretch : Stretch) → IsLeft known leaving stretch → P stretch) →
        Ran P (left_if pace wakes (is_some since) left state leaving (torn_if left came leaving.processor since known)).jobs
    by true None new = left_in_ran P state leaving.time (left_from pace wakes false leaving known) (left_from_ran P pace wakes leaving known all (new refl refl))
    by true (Some time) new =
        subst (λ (before : Known). Ran P (left_in state leaving.time (left_from pace wakes true leaving before))) (sym (torn_left came leaving.processor time known))
        (left_in_ran P state leaving.time (left_unseen pace wakes true leaving (loses time known))
        (left_unseen_ran P pace wakes true leaving (loses time known) (lost_ran P time known.jobs all) (λ whole first. cc whole)))
    by false None new = all
    by false (Some time) new = torn_ran P false came leaving.processor time known all

-- the stretch that a change of speed ends
abbrev before_change : ℕ → ℕ → Option ℕ → Standing → Stretch
before_change processor time khz standing = record { processor = processor; from = standing.since; to = time; khz = khz }

pub speeds_ran : (P : Stretch → Type 0) (processor time : ℕ) (khz : Option ℕ) (known : Known) → Ran P known.jobs →
    ((standing : Standing) → known.on ≡ Some standing → standing.processor ≡ processor → P (before_change processor time khz standing)) → Ran P (speeds processor time khz known).jobs
speeds_ran P processor time khz known all new = by known.on new
  where
    by : (on : Option Standing) → ((standing : Standing) → on ≡ Some standing → standing.processor ≡ processor → P (before_change processor time khz standing)) →
        (let after : Known = elim on [
          | None ↦ known
          | Some standing ↦ if standing.processor == processor then record {
            jobs = changed_last (ran (record { processor = processor; from = standing.since; to = time; khz = khz })) known.jobs;
            on = Some (record standing { since = time });
            woken = known.woken;
          } else known
        ] in Ran P after.jobs)
    by None new = all
    by (Some standing) new = inner (standing.processor == processor) refl
      where
        inner : (b : Bool) → (standing.processor == processor) ≡ b → (let after : Known = if b then record {
          jobs = changed_last (ran (record { processor = processor; from = standing.since; to = time; khz = khz })) known.jobs;
          on = Some (record standing { since = time });
          woken = known.woken;
        } else known in Ran P after.jobs)
        inner true is = more_ran P (before_change processor time khz standing) known.jobs (new standing refl (eqb-true standing.processor processor is)) all
        inner false is = all

-- # Where a thread runs

-- It runs on after an event where it ran before it, and is away from where that is, or it came just then.
pub data IsOn (before : Option Standing) (away : Standing → Type 0) (processor time : ℕ) (fresh : Type 0) (standing : Standing) : Type 0 where
  Still : (on : before ≡ Some standing) (elsewhere : away standing) → IsOn before away processor time fresh standing
  Fresh : (how : fresh) (there : standing.processor ≡ processor) (now : standing.since ≡ time) → IsOn before away processor time fresh standing

-- away is who stands elsewhere, or isn't missing in a switch
pub switch_on : (away : Standing → Type 0) (pace : Pace) (wakes left came : Bool) (state : State) (leaving : Leaving) (since : Option ℕ) (known : Known) →
    ((standing : Standing) → known.on ≡ Some standing → left ≡ false → (standing.processor ≡ leaving.processor → since ≡ None) → away standing) → (standing : Standing) →
    (after_switch pace wakes left came state leaving since known).on ≡ Some standing → IsOn known.on away leaving.processor leaving.time (came ≡ true) standing
switch_on away pace wakes left true state leaving since known gone standing is =
    let same : record { processor = leaving.processor; came = leaving.time; since = leaving.time } ≡ standing = cc is in
    Fresh refl (ap (λ (s : Standing). s.processor) (sym same)) (ap (λ (s : Standing). s.since) (sym same))
switch_on away pace wakes true false state leaving since known gone standing is = absurd (cc is)
switch_on away pace wakes false false state leaving None known gone standing is = Still is (gone standing is refl (λ here. refl))
switch_on away pace wakes false false state leaving (Some since) known gone standing is = by known.on refl is
  where
    other : (before : Standing) → known.on ≡ Some before → (b : Bool) → (before.processor == leaving.processor) ≡ b →
        (if b then loses since known else record known { jobs = torn_jobs since before.came known.jobs }).on ≡ Some standing →
        IsOn known.on away leaving.processor leaving.time (false ≡ true) standing
    other before on true there some = absurd (cc some)
    other before on false there some =
        let both : Some before ≡ Some standing = sym on ∙ some in
        let one : before ≡ standing = cc both in
        Still some (gone standing some refl (λ here.
        let now : (before.processor == leaving.processor) ≡ true = eq-eqb before.processor leaving.processor (ap (λ (s : Standing). s.processor) one ∙ here) in
        absurd (true≢false (sym now ∙ there))))

    by : (on : Option Standing) → known.on ≡ on → (let after : Known = elim on [
      | None ↦ loses since known
      | Some before ↦ if false || false || (before.processor == leaving.processor) then loses since known
          else record known { jobs = torn_jobs since before.came known.jobs }
    ] in after.on) ≡ Some standing → IsOn known.on away leaving.processor leaving.time (false ≡ true) standing
    by None off some = absurd (cc some)
    by (Some before) on some = other before on (before.processor == leaving.processor) refl some

pub speeds_on : (processor time : ℕ) (khz : Option ℕ) (known : Known) (standing : Standing) → (speeds processor time khz known).on ≡ Some standing →
    IsOn known.on (λ (s : Standing). s.processor ≢ processor) processor time ((before : Standing) × (known.on ≡ Some before) × (before.processor ≡ processor)) standing
speeds_on processor time khz known standing is = by known.on refl is
  where
    by : (on : Option Standing) → known.on ≡ on → (let after : Known = elim on [
      | None ↦ known
      | Some standing ↦ if standing.processor == processor then record {
        jobs = changed_last (ran (record { processor = processor; from = standing.since; to = time; khz = khz })) known.jobs;
        on = Some (record standing { since = time });
        woken = known.woken;
      } else known
    ] in after.on) ≡ Some standing → IsOn known.on (λ (s : Standing). s.processor ≢ processor) processor time ((before : Standing) × (known.on ≡ Some before) × (before.processor ≡ processor)) standing
    by None off some = let both : None ≡ Some standing = sym off ∙ some in cc both
    by (Some before) on some = inner (before.processor == processor) refl some
      where
        inner : (b : Bool) → (before.processor == processor) ≡ b → (let after : Known = if b then record {
          jobs = changed_last (ran (record { processor = processor; from = before.since; to = time; khz = khz })) known.jobs;
          on = Some (record before { since = time });
          woken = known.woken;
        } else known in after.on) ≡ Some standing → IsOn known.on (λ (s : Standing). s.processor ≢ processor) processor time ((before : Standing) × (known.on ≡ Some before) × (before.processor ≡ processor)) standing
        inner true there given =
            let same : record before { since = time } ≡ standing = cc given in
            Fresh (before, on, eqb-true before.processor processor there) (ap (λ (s : Standing). s.processor) (sym same) ∙ eqb-true before.processor processor there)
            (ap (λ (s : Standing). s.since) (sym same))
        inner false there given =
            let same : before ≡ standing = (let both : Some before ≡ Some standing = sym on ∙ given in cc both) in
            Still given (λ here.
            let now : (before.processor == processor) ≡ true = eq-eqb before.processor processor (ap (λ (s : Standing). s.processor) same ∙ here) in true≢false (sym now ∙ there))

-- # What is shared

weaker_stretches : (P Q : Stretch → Type 0) → ((x : Stretch) → P x → Q x) → (jobs : List Job) → Ran P jobs → Ran Q jobs
weaker_stretches P Q each jobs all =
    all_weaker (λ (job : Job). AllByRecursion P job.stretches) (λ (job : Job). AllByRecursion Q job.stretches) (λ job own. all_weaker P Q each job.stretches own) jobs all

each_stretch : {A : Type 0} (P : A → Stretch → Type 0) (stretches : List Stretch) → ((x : A) → AllByRecursion (P x) stretches) → AllByRecursion (λ s. (x : A) → P x s) stretches
each_stretch P [] all = tt
each_stretch P (stretch ∷ stretches) all = (λ x. (all x).0, each_stretch P stretches (λ x. (all x).1))

for_each : {A : Type 0} (P : A → Stretch → Type 0) (jobs : List Job) → ((x : A) → Ran (P x) jobs) → Ran (λ s. (x : A) → P x s) jobs
for_each P [] all = tt
for_each P (job ∷ jobs) all = (each_stretch P job.stretches (λ x. (all x).0), for_each P jobs (λ x. (all x).1))

both_stretches : (P Q : Stretch → Type 0) (stretches : List Stretch) → AllByRecursion P stretches → AllByRecursion Q stretches → AllByRecursion (λ s. P s × Q s) stretches
both_stretches P Q [] first second = tt
both_stretches P Q (stretch ∷ stretches) first second = ((first.0, second.0), both_stretches P Q stretches first.1 second.1)

both_ran : (P Q : Stretch → Type 0) (jobs : List Job) → Ran P jobs → Ran Q jobs → Ran (λ s. P s × Q s) jobs
both_ran P Q [] first second = tt
both_ran P Q (job ∷ jobs) first second = (both_stretches P Q job.stretches first.0 second.0, both_ran P Q jobs first.1 second.1)

-- on this processor it ends by this time
abbrev EndsBy : ℕ → ℕ → Stretch → Type 0
EndsBy processor time stretch = stretch.processor ≡ processor → stretch.to ≤ time

-- What holds of all tasks, of which there are so many, after some lines: `seen` tells which processors have switched since the last loss, `whole` since
-- when a processor's lines are whole at a time, and `By` that a time isn't before these lines.
record Shares (bound : ℕ) (known : ℕ → Known) (seen : ℕ → Bool) (whole : ℕ → ℕ → ℕ) (By : ℕ → Type 0) : Type 0 where
  listed : (n : ℕ) (standing : Standing) → (known n).on ≡ Some standing → n < bound
  apart : (n m : ℕ) → n ≢ m → Ran (λ s. Ran (AreApart s) (known m).jobs) (known n).jobs
  ended : (n m : ℕ) (standing : Standing) → (known n).on ≡ Some standing → Ran (EndsBy standing.processor standing.since) (known m).jobs
  alone : (n m : ℕ) (standing other : Standing) → (known n).on ≡ Some standing → (known m).on ≡ Some other → standing.processor ≡ other.processor → n ≡ m
  switched : (n : ℕ) (standing : Standing) → (known n).on ≡ Some standing → seen standing.processor ≡ true
  unseen : (processor : ℕ) → seen processor ≡ false → (m time : ℕ) → By time → Ran (EndsBy processor (whole processor time)) (known m).jobs
  past : (m time : ℕ) → By time → Ran (λ s. s.to ≤ time) (known m).jobs

-- An event at a processor: `New` are the stretches that end there, and `Comes` says who comes there, or goes on there.
step : (bound : ℕ) (known after : ℕ → Known) (seen now_seen : ℕ → Bool) (whole now_whole : ℕ → ℕ → ℕ) (By now_By : ℕ → Type 0) (processor time : ℕ)
    (New : ℕ → Stretch → Type 0) (Comes : ℕ → Type 0) → Shares bound known seen whole By → By time →
    ((q : ℕ) → seen q ≡ true → now_seen q ≡ true) → ((q t : ℕ) → now_By t → (s : ℕ) × By s × (now_whole q t ≡ whole q s)) → ((t : ℕ) → now_By t → time ≤ t) →
    ((n : ℕ) (P : Stretch → Type 0) → Ran P (known n).jobs → ((x : Stretch) → New n x → P x) → Ran P (after n).jobs) →
    ((n : ℕ) (standing : Standing) → (after n).on ≡ Some standing → IsOn (known n).on (λ (s : Standing). s.processor ≢ processor) processor time (Comes n) standing) →
    ((n : ℕ) (x : Stretch) → New n x → (x.processor ≡ processor) × (x.to ≡ time)) →
    ((n : ℕ) (x : Stretch) → New n x → (m : ℕ) → Ran (EndsBy processor x.from) (known m).jobs) →
    ((n m : ℕ) (x y : Stretch) → New n x → New m y → n ≡ m) → ((n m : ℕ) → Comes n → Comes m → n ≡ m) →
    ((n : ℕ) (x : Stretch) → New n x → now_seen processor ≡ true) → ((n : ℕ) → Comes n → now_seen processor ≡ true) →
    ((n : ℕ) → Comes n → n < bound) → Shares bound after now_seen now_whole now_By
step bound known after seen now_seen whole now_whole By now_By processor time New Comes old times still_seen since later jobs on ends before one_new one_comes new_seen comes_seen comes_listed = record {
  listed = λ n standing is. listed_there n standing (on n standing is);
  apart = λ n m other.
      weaker_stretches (λ s. Ran (AreApart s) (known m).jobs × ((y : Stretch) → New m y → AreApart s y)) (λ s. Ran (AreApart s) (after m).jobs)
      (λ s both. jobs m (AreApart s) both.0 both.1) (after n).jobs
      (jobs n (λ s. Ran (AreApart s) (known m).jobs × ((y : Stretch) → New m y → AreApart s y)) (both_apart n m other)
      (λ x new. (
        weaker_stretches (EndsBy processor x.from) (AreApart x) (λ t ended same. inr (ended (sym same ∙ (ends n x new).0))) (known m).jobs (before n x new m),
        λ y also. absurd (other (one_new n m x y new also)),
      )));
  ended = λ n m standing is. ended_by n m standing (on n standing is);
  alone = λ n m standing other is also same. alone_there n m standing other same (on n standing is) (on m other also);
  switched = λ n standing is. switched_there n standing (on n standing is);
  unseen = λ q none m t by.
      let from = since q t by in
      subst (λ (w : ℕ). Ran (EndsBy q w) (after m).jobs) (sym from.2)
      (jobs m (EndsBy q (whole q from.0)) (old.unseen q (never q none) m from.0 from.1)
      (λ y new here. absurd (true≢false (sym (new_seen m y new) ∙ ap now_seen (sym (ends m y new).0 ∙ here) ∙ none))));
  past = λ m t by.
      jobs m (λ s. s.to ≤ t) (weaker_stretches (λ s. s.to ≤ time) (λ s. s.to ≤ t) (λ s ended. omega (arith, ended, later t by)) (known m).jobs (old.past m time times))
      (λ y new. omega (arith, (ends m y new).1, later t by));
}
  where
    never : (q : ℕ) → now_seen q ≡ false → seen q ≡ false
    never q none = elim (cases_Bool (seen q)) [ inl before ↦ absurd (true≢false (sym (still_seen q before) ∙ none)) | inr off ↦ off ]

    ended_by : (n m : ℕ) (standing : Standing) → IsOn (known n).on (λ (s : Standing). s.processor ≢ processor) processor time (Comes n) standing → Ran (EndsBy standing.processor standing.since) (after m).jobs
    ended_by n m standing (Still was elsewhere) =
        jobs m (EndsBy standing.processor standing.since) (old.ended n m standing was) (λ y new here. absurd (elsewhere (sym here ∙ (ends m y new).0)))
    ended_by n m standing (Fresh how there now) =
        jobs m (EndsBy standing.processor standing.since)
        (weaker_stretches (λ s. s.to ≤ time) (EndsBy standing.processor standing.since) (λ s ended here. omega (arith, ended, now)) (known m).jobs (old.past m time times))
        (λ y new here. omega (arith, (ends m y new).1, now))

    alone_there : (n m : ℕ) (standing other : Standing) → standing.processor ≡ other.processor →
        IsOn (known n).on (λ (s : Standing). s.processor ≢ processor) processor time (Comes n) standing →
        IsOn (known m).on (λ (s : Standing). s.processor ≢ processor) processor time (Comes m) other → n ≡ m
    alone_there n m standing other same (Still was elsewhere) (Still also elsewhere_too) = old.alone n m standing other was also same
    alone_there n m standing other same (Still was elsewhere) (Fresh how there now) = absurd (elsewhere (same ∙ there))
    alone_there n m standing other same (Fresh how there now) (Still also elsewhere) = absurd (elsewhere (sym same ∙ there))
    alone_there n m standing other same (Fresh how there now) (Fresh how_too there_too now_too) = one_comes n m how how_too

    switched_there : (n : ℕ) (standing : Standing) → IsOn (known n).on (λ (s : Standing). s.processor ≢ processor) processor time (Comes n) standing → now_seen standing.processor ≡ true
    switched_there n standing (Still was elsewhere) = still_seen standing.processor (old.switched n standing was)
    switched_there n standing (Fresh how there now) = ap now_seen there ∙ comes_seen n how

    listed_there : (n : ℕ) (standing : Standing) → IsOn (known n).on (λ (s : Standing). s.processor ≢ processor) processor time (Comes n) standing → n < bound
    listed_there n standing (Still was elsewhere) = old.listed n standing was
    listed_there n standing (Fresh how there now) = comes_listed n how

    both_apart : (n m : ℕ) → n ≢ m → Ran (λ s. Ran (AreApart s) (known m).jobs × ((y : Stretch) → New m y → AreApart s y)) (known n).jobs
    both_apart n m other =
        both_ran (λ s. Ran (AreApart s) (known m).jobs) (λ s. (y : Stretch) → New m y → AreApart s y) (known n).jobs (old.apart n m other)
        (for_each (λ (y : Stretch) s. New m y → AreApart s y) (known n).jobs (λ y.
        for_each (λ (new : New m y) s. AreApart s y) (known n).jobs (λ new.
        weaker_stretches (EndsBy processor y.from) (λ s. AreApart s y) (λ s ended same. inl (ended (same ∙ (ends m y new).0))) (known n).jobs (before m y new n))))

-- A line that tells of no stretch, and of nobody who comes.
quiet : (bound : ℕ) (known after : ℕ → Known) (seen : ℕ → Bool) (whole now_whole : ℕ → ℕ → ℕ) (By now_By : ℕ → Type 0) (time : ℕ) → Shares bound known seen whole By → By time →
    ((q t : ℕ) → now_By t → (s : ℕ) × By s × (now_whole q t ≡ whole q s)) → ((t : ℕ) → now_By t → time ≤ t) →
    ((n : ℕ) (P : Stretch → Type 0) → Ran P (known n).jobs → Ran P (after n).jobs) → ((n : ℕ) → (after n).on ≡ (known n).on) →
    Shares bound after seen now_whole now_By
quiet bound known after seen whole now_whole By now_By time old times since later jobs on = record {
  listed = λ n standing is. old.listed n standing (sym (on n) ∙ is);
  apart = λ n m other.
      weaker_stretches (λ s. Ran (AreApart s) (known m).jobs) (λ s. Ran (AreApart s) (after m).jobs) (λ s all. jobs m (AreApart s) all) (after n).jobs
      (jobs n (λ s. Ran (AreApart s) (known m).jobs) (old.apart n m other));
  ended = λ n m standing is. jobs m (EndsBy standing.processor standing.since) (old.ended n m standing (sym (on n) ∙ is));
  alone = λ n m standing other is also same. old.alone n m standing other (sym (on n) ∙ is) (sym (on m) ∙ also) same;
  switched = λ n standing is. old.switched n standing (sym (on n) ∙ is);
  unseen = λ q none m t by.
      let from = since q t by in
      subst (λ (w : ℕ). Ran (EndsBy q w) (after m).jobs) (sym from.2) (jobs m (EndsBy q (whole q from.0)) (old.unseen q none m from.0 from.1));
  past = λ m t by.
      jobs m (λ s. s.to ≤ t) (weaker_stretches (λ s. s.to ≤ time) (λ s. s.to ≤ t) (λ s ended. omega (arith, ended, later t by)) (known m).jobs (old.past m time times));
}

-- A loss: nobody is anywhere, and nothing is known before it.
lose : (bound : ℕ) (known : ℕ → Known) (seen : ℕ → Bool) (whole : ℕ → ℕ → ℕ) (By now_By : ℕ → Type 0) (since : ℕ) → Shares bound known seen whole By → ((t : ℕ) → now_By t → By t) →
    Shares bound (λ n. loses since (known n)) (λ q. false) (λ q t. t) now_By
lose bound known seen whole By now_By since old weaker = record {
  listed = λ n standing is. absurd (cc is);
  apart = λ n m other.
      lost_ran (λ s. Ran (AreApart s) (map (lost_job since) (known m).jobs)) since (known n).jobs
      (weaker_stretches (λ s. Ran (AreApart s) (known m).jobs) (λ s. Ran (AreApart s) (map (lost_job since) (known m).jobs)) (λ s all. lost_ran (AreApart s) since (known m).jobs all)
      (known n).jobs (old.apart n m other));
  ended = λ n m standing is. absurd (cc is);
  alone = λ n m standing other is also same. absurd (cc is);
  switched = λ n standing is. absurd (cc is);
  unseen = λ q none m t by.
      lost_ran (EndsBy q t) since (known m).jobs (weaker_stretches (λ s. s.to ≤ t) (EndsBy q t) (λ s ended here. ended) (known m).jobs (old.past m t (weaker t by)));
  past = λ m t by. lost_ran (λ s. s.to ≤ t) since (known m).jobs (old.past m t (weaker t by));
}

-- # Lines

-- no line of these is later than this time, lost events aside
abbrev pub AreBy : ℕ → List Said → Type 0
AreBy time [] = Unit {0}
AreBy time (Stamped event ∷ past) = (is_loss event.happening ≡ false → event.time ≤ time) × AreBy time past
AreBy time (Lost processor reach ∷ past) = AreBy time past
AreBy time (Nothing ∷ past) = AreBy time past

-- the lines are in order of time
abbrev pub AreInOrder : List Said → Type 0
AreInOrder [] = Unit {0}
AreInOrder (Stamped event ∷ past) = (is_loss event.happening ≡ false → AreBy event.time past) × AreInOrder past
AreInOrder (Lost processor reach ∷ past) = AreInOrder past
AreInOrder (Nothing ∷ past) = AreInOrder past

same_number : (n m : ℕ) (number : Option ℕ) → is_number n number ≡ true → is_number m number ≡ true → n ≡ m
same_number n m None first second = cc
same_number n m (Some other) first second = sym (eqb-true other n first) ∙ eqb-true other m second

abbrev seen_after : List Said → Event → Happening → ℕ → Bool
seen_after past event happening q = is_some (if is_loss happening then None
    else (if is_switch happening && (event.processor == q) then Some event.time else last_switch q past))

-- what one event is
abbrev AfterIt : Asked → List Said → Event → Happening → Type 0
AfterIt asked past event happening =
    Shares (length asked.tasks) (all_known asked past) (λ q. has_switched q past) (λ q t. lines_since q t past) (λ t. AreBy t past) →
    (is_loss happening ≡ false → AreBy event.time past) →
    Shares (length asked.tasks) (λ n. after_event asked n past event happening (all_known asked past)) (seen_after past event happening)
    (λ q t. if is_loss happening then t else lines_since q (if event.processor == q then event.time else t) past)
    (λ t. (is_loss happening ≡ false → event.time ≤ t) × AreBy t past)

-- Behind an event a processor's lines are whole since when they were before it, or at it.
whole_at : (past : List Said) (event : Event) → AreBy event.time past → (q t : ℕ) → ((false ≡ false → event.time ≤ t) × AreBy t past) →
    (s : ℕ) × AreBy s past × (lines_since q (if event.processor == q then event.time else t) past ≡ lines_since q s past)
whole_at past event order q t by = (if event.processor == q then event.time else t, either (event.processor == q), refl)
  where
    either : (b : Bool) → AreBy (if b then event.time else t) past
    either true = order
    either false = by.1

switched_now : (b : Bool) (time : ℕ) (before : Option ℕ) → is_some before ≡ true → is_some (if b then Some time else before) ≡ true
switched_now true time before is = refl
switched_now false time before is = is

it_switched : (processor time : ℕ) (before : Option ℕ) → is_some (if processor == processor then Some time else before) ≡ true
it_switched processor time before = rw (eq-eqb processor processor refl) refl

never_switched : (before : Option ℕ) → is_none before ≡ true → is_some before ≡ false
never_switched None first = refl
never_switched (Some time) first = cc

-- # Switches that are missing

found_within : {A : Type 0} (test : A → Bool) (xs : List A) (n : ℕ) → position test xs ≡ Some n → n < length xs
found_within test xs n is = by (nat_lt (position_or_len test xs) (length xs)) refl is
  where
    by : (b : Bool) → nat_lt (position_or_len test xs) (length xs) ≡ b → cond b (Some (position_or_len test xs)) None ≡ Some n → n < length xs
    by true less some =
        let same : position_or_len test xs ≡ n = cc some in
        let within : position_or_len test xs < length xs = ltb-true (position_or_len test xs) (length xs) less in omega (arith, same, within)
    by false less some = absurd (cc some)

-- a task that a thread is, is one of them
is_within : (asked : Asked) (number : ℕ) (thread : Thread) → is_of asked number thread ≡ true → number < length asked.tasks
is_within asked number thread is =
    first (position (λ (task : Task). is_numbered thread.pid task.thread) asked.tasks) refl is
  where
    named : (found : Option ℕ) → position (λ (task : Task). is_named thread.name task.thread) asked.tasks ≡ found → is_number number found ≡ true → number < length asked.tasks
    named None which mine = cc mine
    named (Some other) which mine =
        let same : other ≡ number = eqb-true other number mine in
        let within : other < length asked.tasks = found_within (λ (task : Task). is_named thread.name task.thread) asked.tasks other which in omega (arith, same, within)

    first : (found : Option ℕ) → position (λ (task : Task). is_numbered thread.pid task.thread) asked.tasks ≡ found →
        is_number number (or_else found (position (λ (task : Task). is_named thread.name task.thread) asked.tasks)) ≡ true → number < length asked.tasks
    first None which mine = named (position (λ (task : Task). is_named thread.name task.thread) asked.tasks) refl mine
    first (Some other) which mine =
        let same : other ≡ number = eqb-true other number mine in
        let within : other < length asked.tasks = found_within (λ (task : Task). is_numbered thread.pid task.thread) asked.tasks other which in omega (arith, same, within)

neither : (one other : Option ℕ) → earlier one other ≡ None → (one ≡ None) × (other ≡ None)
neither None other none = (refl, none)
neither (Some time) None none = cc none
neither (Some time) (Some later) none = cc none

-- where none is missing of all, none is of each
none_missing : (asked : Asked) (previous next : Thread) (leaving : Leaving) (known : ℕ → Known) (start : ℕ) (tasks : List Task) (number : ℕ) →
    missing_of asked previous next leaving known start tasks ≡ None → start ≤ number → number < start + length tasks →
    missing_since (not asked.begin_at_run) (is_of asked number previous) (is_of asked number next) leaving (known number) ≡ None
none_missing asked previous next leaving known start [] number none from within = absurd (omega (arith, from, within))
none_missing asked previous next leaving known start (task ∷ tasks) number none from within =
    let parts = neither (missing_since (not asked.begin_at_run) (is_of asked start previous) (is_of asked start next) leaving (known start))
    (missing_of asked previous next leaving known (start + 1) tasks) none in
    elim (cases_lt start number) [
      | inl less ↦ none_missing asked previous next leaving known (start + 1) tasks number parts.1 (omega (arith, less)) (omega (arith, within))
      | inr more ↦
          let same : start ≡ number = omega (arith, from, more) in
          subst (λ (n : ℕ). missing_since (not asked.begin_at_run) (is_of asked n previous) (is_of asked n next) leaving (known n) ≡ None) same parts.0
    ]

-- who stands there, where no switch of it is missing
not_displaced : (wakes left came : Bool) (leaving : Leaving) (known : Known) (standing : Standing) → missing_since wakes left came leaving known ≡ None → known.on ≡ Some standing →
    is_displaced left came leaving.processor standing ≡ false
not_displaced wakes left came leaving known standing none on = by (is_displaced left came leaving.processor standing) (subst None_of on none)
  where
    None_of : Option Standing → Type 0
    None_of on = ◌≡◌ {A = Option ℕ} (elim on [
      | None ↦ if left && not (is_there wakes leaving known) then Some (last_told leaving) else None
      | Some standing ↦ if is_displaced left came leaving.processor standing then Some (min standing.came (last_told leaving)) else None
    ]) None

    by : (b : Bool) → ◌≡◌ {A = Option ℕ} (if b then Some (min standing.came (last_told leaving)) else None) None → b ≡ false
    by true is = cc is
    by false is = refl

-- Who leaves a processor stands there, and who doesn't stands elsewhere.
stood_there : (left came : Bool) (processor : ℕ) (standing : Standing) → is_displaced left came processor standing ≡ false → left ≡ true → standing.processor ≡ processor
stood_there left came processor standing none mine = by (standing.processor == processor) refl (subst (λ (l : Bool). is_displaced l came processor standing ≡ false) mine none)
  where
    by : (b : Bool) → (standing.processor == processor) ≡ b → (if b then not true else (true || came)) ≡ false → standing.processor ≡ processor
    by true there is = eqb-true standing.processor processor there
    by false there is = cc is

stays_away : (left came : Bool) (processor : ℕ) (standing : Standing) → is_displaced left came processor standing ≡ false → left ≡ false → standing.processor ≢ processor
stays_away left came processor standing none other here =
    by (standing.processor == processor) (eq-eqb standing.processor processor here) (subst (λ (l : Bool). is_displaced l came processor standing ≡ false) other none)
  where
    by : (b : Bool) → b ≡ true → (if b then not false else (false || came)) ≡ false → ⊥
    by true there is = cc is
    by false there is = cc there

-- # Events

-- a task's stretch that ends at a switch
record IsNewAt (asked : Asked) (past : List Said) (event : Event) (previous next : Thread) (n : ℕ) (x : Stretch) : Type 0 where
  mine : is_of asked n previous ≡ true
  none : missing_of asked previous next (leaving_at asked past event previous) (all_known asked past) 0 asked.tasks ≡ None
  left : IsLeft (known_after asked n past) (leaving_at asked past event previous) x

pub left_at : (known : Known) (leaving : Leaving) (x : Stretch) → IsLeft known leaving x → (x.processor ≡ leaving.processor) × (x.to ≡ leaving.time)
left_at known leaving x (Came standing on is) = (ap (λ (s : Stretch). s.processor) is, ap (λ (s : Stretch). s.to) is)
left_at known leaving x (Unseen first is) = (ap (λ (s : Stretch). s.processor) is, ap (λ (s : Stretch). s.to) is)

switched : (asked : Asked) (past : List Said) (event : Event) (previous : Thread) (state : State) (next : Thread) → AfterIt asked past event (Switch previous state next)
switched asked past event previous state next old order =
    step (length asked.tasks) known (λ n. after_event asked n past event (Switch previous state next) known) (λ q. has_switched q past)
    (seen_after past event (Switch previous state next)) (λ q t. lines_since q t past) (λ q t. lines_since q (if event.processor == q then event.time else t) past)
    (λ t. AreBy t past) (λ t. (false ≡ false → event.time ≤ t) × AreBy t past) event.processor event.time (IsNewAt asked past event previous next) (λ n. is_of asked n next ≡ true)
    old (order refl) (λ q is. switched_now (event.processor == q) event.time (last_switch q past) is) (whole_at past event (order refl)) (λ t by. by.0 refl)
    (λ n P all new.
    switch_ran P (pace_of (task_at asked n)) (not asked.begin_at_run) (is_of asked n previous) (is_of asked n next) state leaving since (known n) all
    (λ mine none x left. new x (record { mine = mine; none = none; left = left })))
    (λ n standing is.
    switch_on (λ (s : Standing). s.processor ≢ event.processor) (pace_of (task_at asked n)) (not asked.begin_at_run) (is_of asked n previous) (is_of asked n next) state leaving since
    (known n) (λ one on off none here. stays_away (is_of asked n previous) (is_of asked n next) event.processor one (placed n one (none here) on) off here) standing is)
    (λ n x new. left_at (known n) leaving x new.left)
    (λ n x new m. ended_before n x new new.left m)
    (λ n m x y new also. same_number n m (task_of asked.tasks previous) new.mine also.mine)
    (λ n m comes also. same_number n m (task_of asked.tasks next) comes also)
    (λ n x new. it_switched event.processor event.time (last_switch event.processor past))
    (λ n comes. it_switched event.processor event.time (last_switch event.processor past))
    (λ n comes. is_within asked n next comes)
  where
    known : ℕ → Known
    known = all_known asked past

    leaving : Leaving
    leaving = leaving_at asked past event previous

    since : Option ℕ
    since = missing_of asked previous next leaving known 0 asked.tasks

    placed : (n : ℕ) (standing : Standing) → since ≡ None → (known n).on ≡ Some standing →
        is_displaced (is_of asked n previous) (is_of asked n next) event.processor standing ≡ false
    placed n standing none on =
        not_displaced (not asked.begin_at_run) (is_of asked n previous) (is_of asked n next) leaving (known n) standing
        (none_missing asked previous next leaving known 0 asked.tasks n none (omega arith) (let within : n < length asked.tasks = old.listed n standing on in omega (arith, within))) on

    ended_before : (n : ℕ) (x : Stretch) → IsNewAt asked past event previous next n x → IsLeft (known n) leaving x → (m : ℕ) → Ran (EndsBy event.processor x.from) (known m).jobs
    ended_before n x new (Came standing on is) m =
        weaker_stretches (EndsBy standing.processor standing.since) (EndsBy event.processor x.from)
        (λ s ended here.
        let there : standing.processor ≡ event.processor =
        stood_there (is_of asked n previous) (is_of asked n next) event.processor standing (placed n standing new.none on) new.mine in
        let from : x.from ≡ standing.since = ap (λ (s : Stretch). s.from) is in omega (arith, from, ended (here ∙ sym there))) (known m).jobs (old.ended n m standing on)
    ended_before n x new (Unseen first is) m =
        weaker_stretches (EndsBy event.processor (lines_since event.processor event.time past)) (EndsBy event.processor x.from)
        (λ s ended here. let from : x.from ≡ lines_since event.processor event.time past = ap (λ (s : Stretch). s.from) is in omega (arith, from, ended here)) (known m).jobs
        (old.unseen event.processor (never_switched (last_switch event.processor past) first) m event.time (order refl))

-- a task's stretch that ends where its processor's speed changes
record IsCut (known : Known) (processor time : ℕ) (khz : Option ℕ) (x : Stretch) : Type 0 where
  standing : Standing
  on : known.on ≡ Some standing
  there : standing.processor ≡ processor
  is : x ≡ before_change processor time khz standing

changed : (asked : Asked) (past : List Said) (event : Event) (processor khz : ℕ) → AfterIt asked past event (Speed processor khz)
changed asked past event processor khz old order =
    let known : ℕ → Known = all_known asked past in
    let told : Option ℕ = speed_after asked.start processor past in
    let Goes : ℕ → Type 0 = λ n. (before : Standing) × ((known n).on ≡ Some before) × (before.processor ≡ processor) in
    step (length asked.tasks) known (λ n. after_event asked n past event (Speed processor khz) known) (λ q. has_switched q past)
    (λ q. has_switched q past) (λ q t. lines_since q t past) (λ q t. lines_since q (if event.processor == q then event.time else t) past) (λ t. AreBy t past)
    (λ t. (false ≡ false → event.time ≤ t) × AreBy t past) processor event.time (λ n x. IsCut (known n) processor event.time told x) Goes old (order refl)
    (λ q is. is) (whole_at past event (order refl)) (λ t by. by.0 refl)
    (λ n P all new.
    speeds_ran P processor event.time told (known n) all
    (λ standing on there. new (before_change processor event.time told standing) (record { standing = standing; on = on; there = there; is = refl })))
    (λ n standing is. speeds_on processor event.time told (known n) standing is)
    (λ n x new. (ap (λ (s : Stretch). s.processor) new.is, ap (λ (s : Stretch). s.to) new.is))
    (λ n x new m.
    weaker_stretches (EndsBy new.standing.processor new.standing.since) (EndsBy processor x.from)
    (λ s ended here. let from : x.from ≡ new.standing.since = ap (λ (s : Stretch). s.from) new.is in omega (arith, from, ended (here ∙ sym new.there))) (known m).jobs
    (old.ended n m new.standing new.on))
    (λ n m x y new also. old.alone n m new.standing also.standing new.on also.on (new.there ∙ sym also.there))
    (λ n m goes also. old.alone n m goes.0 also.0 goes.1 also.1 (goes.2 ∙ sym also.2))
    (λ n x new. ap (λ (q : ℕ). has_switched q past) (sym new.there) ∙ old.switched n new.standing new.on)
    (λ n goes. ap (λ (q : ℕ). has_switched q past) (sym goes.2) ∙ old.switched n goes.0 goes.1)
    (λ n goes. old.listed n goes.0 goes.1)

pub woken_known : (P : Stretch → Type 0) (b : Bool) (pace : Pace) (starts : Bool) (time : ℕ) (known : Known) → Ran P known.jobs →
    Ran P (if b then wakes_up pace starts time known else known).jobs
woken_known P true pace starts time known all = woken_ran P pace (woken_at starts time known.woken.started) known.woken.came known.jobs all
woken_known P false pace starts time known all = all

pub woken_on : (b : Bool) (pace : Pace) (starts : Bool) (time : ℕ) (known : Known) → (if b then wakes_up pace starts time known else known).on ≡ known.on
woken_on true pace starts time known = refl
woken_on false pace starts time known = refl

after : (asked : Asked) (past : List Said) (event : Event) (happening : Happening) → AfterIt asked past event happening
after asked past event (Switch previous state next) = switched asked past event previous state next
after asked past event (Speed processor khz) = changed asked past event processor khz
after asked past event (WakeUp thread starts) = λ old order.
    quiet (length asked.tasks) (all_known asked past) (λ n. after_event asked n past event (WakeUp thread starts) (all_known asked past)) (λ q. has_switched q past)
    (λ q t. lines_since q t past) (λ q t. lines_since q (if event.processor == q then event.time else t) past) (λ t. AreBy t past)
    (λ t. (false ≡ false → event.time ≤ t) × AreBy t past) event.time old (order refl) (whole_at past event (order refl)) (λ t by. by.0 refl)
    (λ n P all. woken_known P (is_of asked n thread && not asked.begin_at_run) (pace_of (task_at asked n)) starts event.time (known_after asked n past) all)
    (λ n. woken_on (is_of asked n thread && not asked.begin_at_run) (pace_of (task_at asked n)) starts event.time (known_after asked n past))
after asked past event Marker = λ old order.
    quiet (length asked.tasks) (all_known asked past) (all_known asked past) (λ q. has_switched q past)
    (λ q t. lines_since q t past) (λ q t. lines_since q (if event.processor == q then event.time else t) past) (λ t. AreBy t past)
    (λ t. (false ≡ false → event.time ≤ t) × AreBy t past) event.time old (order refl) (whole_at past event (order refl)) (λ t by. by.0 refl) (λ n P all. all) (λ n. refl)
after asked past event Other = λ old order.
    quiet (length asked.tasks) (all_known asked past) (all_known asked past) (λ q. has_switched q past)
    (λ q t. lines_since q t past) (λ q t. lines_since q (if event.processor == q then event.time else t) past) (λ t. AreBy t past)
    (λ t. (false ≡ false → event.time ≤ t) × AreBy t past) event.time old (order refl) (whole_at past event (order refl)) (λ t by. by.0 refl) (λ n P all. all) (λ n. refl)
after asked past event Loss = λ old order.
    lose (length asked.tasks) (all_known asked past) (λ q. has_switched q past) (λ q t. lines_since q t past) (λ t. AreBy t past)
    (λ t. (true ≡ false → event.time ≤ t) × AreBy t past) (lost_since event.processor since.ItsLastLine past) old (λ t by. by.1)

-- so it is after all lines that are in order
shares : (asked : Asked) (past : List Said) → AreInOrder past →
    Shares (length asked.tasks) (all_known asked past) (λ q. has_switched q past) (λ q t. lines_since q t past) (λ t. AreBy t past)
shares asked [] order = record {
  listed = λ n standing is. absurd (cc is);
  apart = λ n m other. tt;
  ended = λ n m standing is. tt;
  alone = λ n m standing other is also same. absurd (cc is);
  switched = λ n standing is. absurd (cc is);
  unseen = λ q none m t by. tt;
  past = λ m t by. tt;
}
shares asked (Stamped event ∷ past) order = after asked past event event.happening (shares asked past order.1) order.0
shares asked (Lost processor reach ∷ past) order =
    lose (length asked.tasks) (all_known asked past) (λ q. has_switched q past) (λ q t. lines_since q t past) (λ t. AreBy t past) (λ t. AreBy t past)
    (lost_since processor reach past) (shares asked past order) (λ t by. by)
shares asked (Nothing ∷ past) order = shares asked past order

-- # The lines that count are in order

-- no line that isn't after `to` goes back
abbrev pub GoesOn : Option ℕ → List Said → Type 0
GoesOn to [] = Unit {0}
GoesOn to (Stamped event ∷ past) = (is_before_to to event.time ≡ true → last_time past ≤ event.time) × GoesOn to past
GoesOn to (Lost processor reach ∷ past) = GoesOn to past
GoesOn to (Nothing ∷ past) = GoesOn to past

not_back : (b : Bool) (time last : ℕ) (o : Option Cause) → nat_lt time last ≡ b → (if b then Some causes.TimeGoesBack else o) ≡ None → last ≤ time
not_back true time last o is none = cc
not_back false time last o is none = ltb-false time last is

stamp_goes_on : (asked : Asked) (past : List Said) (event : Event) → said_fault asked past (Stamped event) ≡ None → is_before_to asked.to event.time ≡ true → last_time past ≤ event.time
stamp_goes_on asked past event none before =
    let stamped = or_none (stamped_fault asked past event) (length_fault asked (Stamped event ∷ past)) none in
    let placed = or_none (place_fault event) (behind_fault asked past event) stamped.0 in
    let behind = or_none (threads_fault asked past event) (loss_fault asked past event) placed.1 in
    let at : event_fault asked past event ≡ None =
    subst (λ (b : Bool). (if b then event_fault asked past event else stayed_fault asked past event) ≡ None) before behind.0 in
    not_back (nat_lt event.time (last_time past)) event.time (last_time past) (happening_fault asked (up_to asked.to past) event.happening) refl at

pub lines_go_on : (asked : Asked) (past : List Said) → first_fault asked past ≡ None → GoesOn asked.to past
lines_go_on asked [] none = tt
lines_go_on asked (Stamped event ∷ past) none =
    let parts = or_none (first_fault asked past) (numbered (length past + 1) (said_fault asked past (Stamped event))) none in
    (stamp_goes_on asked past event (numbered_none (length past + 1) (said_fault asked past (Stamped event)) parts.1), lines_go_on asked past parts.0)
lines_go_on asked (Lost processor reach ∷ past) none =
    lines_go_on asked past (or_none (first_fault asked past) (numbered (length past + 1) (said_fault asked past (Lost processor reach))) none).0
lines_go_on asked (Nothing ∷ past) none =
    lines_go_on asked past (or_none (first_fault asked past) (numbered (length past + 1) (said_fault asked past Nothing)) none).0

-- ---- without `to`

pub all_by : (past : List Said) (time : ℕ) → GoesOn None past → last_time past ≤ time → AreBy time past
all_by [] time goes last = tt
all_by (Stamped event ∷ past) time goes last = (λ loss. last, all_by past time goes.1 (omega (arith, last, goes.0 refl)))
all_by (Lost processor reach ∷ past) time goes last = all_by past time goes last
all_by (Nothing ∷ past) time goes last = all_by past time goes last

all_in_order : (past : List Said) → GoesOn None past → AreInOrder past
all_in_order [] goes = tt
all_in_order (Stamped event ∷ past) goes = (λ loss. all_by past event.time goes.1 (goes.0 refl), all_in_order past goes.1)
all_in_order (Lost processor reach ∷ past) goes = all_in_order past goes
all_in_order (Nothing ∷ past) goes = all_in_order past goes

-- ---- up to `to`

if_by : (time : ℕ) (b : Bool) (past other : List Said) → (b ≡ true → AreBy time past) → (b ≡ false → AreBy time other) → AreBy time (if b then past else other)
if_by time true past other first second = first refl
if_by time false past other first second = second refl

if_in_order : (b : Bool) (past other : List Said) → (b ≡ true → AreInOrder past) → (b ≡ false → AreInOrder other) → AreInOrder (if b then past else other)
if_in_order true past other first second = first refl
if_in_order false past other first second = second refl

-- one that counts, and tells of no loss, isn't after `to`
pub counts_by : (to : ℕ) (event : Event) (past : List Said) → counts to event past ≡ true → is_loss event.happening ≡ false → event.time ≤ to
counts_by to event past is loss =
    leb-true event.time to (subst (λ (b : Bool). (if b then nat_lt (lost_since event.processor since.ItsLastLine past) to else nat_le event.time to) ≡ true) loss is)

-- a switch that doesn't count is after `to`
pub later_switch : (to : ℕ) (event : Event) (past counting : List Said) → counts to event past ≡ false → is_first_switch event counting ≡ true → to < event.time
later_switch to event past counting is first =
    let loss : is_loss event.happening ≡ false = no_loss event.happening (and_parts (is_switch event.happening) (not (has_switched event.processor counting)) first).0 in
    leb-false event.time to (subst (λ (b : Bool). (if b then nat_lt (lost_since event.processor since.ItsLastLine past) to else nat_le event.time to) ≡ false) loss is)
  where
    no_loss : (happening : Happening) → is_switch happening ≡ true → is_loss happening ≡ false
    no_loss (Switch previous state next) switch = refl
    no_loss (WakeUp thread starts) switch = cc
    no_loss (Speed processor khz) switch = cc
    no_loss Loss switch = cc
    no_loss Marker switch = cc
    no_loss Other switch = cc

stayed_by : (to processor time : ℕ) (happening : Happening) (counting : List Said) → to ≤ time → AreBy time counting → AreBy time (stayed to processor happening ∷ counting)
stayed_by to processor time (Switch previous state next) counting within by = (λ loss. within, by)
stayed_by to processor time (WakeUp thread starts) counting within by = by
stayed_by to processor time (Speed other khz) counting within by = by
stayed_by to processor time Loss counting within by = by
stayed_by to processor time Marker counting within by = by
stayed_by to processor time Other counting within by = by

-- none that counts is after `to`
pub up_to_by : (to : ℕ) (past : List Said) → AreBy to (up_to_time to past)
up_to_by to [] = tt
up_to_by to (Stamped event ∷ past) =
    let rest : AreBy to (up_to_time to past) = up_to_by to past in
    if_by to (counts to event past) (Stamped event ∷ up_to_time to past)
    (if is_first_switch event (up_to_time to past) then stayed to event.processor event.happening ∷ up_to_time to past else up_to_time to past)
    (λ is. (λ loss. counts_by to event past is loss, rest))
    (λ is. if_by to (is_first_switch event (up_to_time to past)) (stayed to event.processor event.happening ∷ up_to_time to past) (up_to_time to past)
    (λ first. stayed_by to event.processor to event.happening (up_to_time to past) (omega arith) rest) (λ first. rest))
up_to_by to (Lost processor reach ∷ past) =
    let rest : AreBy to (up_to_time to past) = up_to_by to past in
    if_by to (nat_lt (lost_since processor reach past) to) (Lost processor reach ∷ up_to_time to past) (up_to_time to past) (λ is. rest) (λ is. rest)
up_to_by to (Nothing ∷ past) = up_to_by to past

-- Where the last line comes by a time that isn't after `to`, so do all that count.
pub counted_by : (to time : ℕ) (past : List Said) → GoesOn (Some to) past → time ≤ to → last_time past ≤ time → AreBy time (up_to_time to past)
counted_by to time [] goes within last = tt
counted_by to time (Stamped event ∷ past) goes within last =
    let rest : AreBy time (up_to_time to past) = counted_by to time past goes.1 within (omega (arith, last, goes.0 (le-leb event.time to (omega (arith, last, within))))) in
    if_by time (counts to event past) (Stamped event ∷ up_to_time to past)
    (if is_first_switch event (up_to_time to past) then stayed to event.processor event.happening ∷ up_to_time to past else up_to_time to past)
    (λ is. (λ loss. last, rest))
    (λ is. if_by time (is_first_switch event (up_to_time to past)) (stayed to event.processor event.happening ∷ up_to_time to past) (up_to_time to past)
    (λ first. absurd (omega (arith, last, within, later_switch to event past (up_to_time to past) is first))) (λ first. rest))
counted_by to time (Lost processor reach ∷ past) goes within last =
    let rest : AreBy time (up_to_time to past) = counted_by to time past goes within last in
    if_by time (nat_lt (lost_since processor reach past) to) (Lost processor reach ∷ up_to_time to past) (up_to_time to past) (λ is. rest) (λ is. rest)
counted_by to time (Nothing ∷ past) goes within last = counted_by to time past goes within last

stayed_in_order : (to processor : ℕ) (happening : Happening) (counting : List Said) → AreBy to counting → AreInOrder counting → AreInOrder (stayed to processor happening ∷ counting)
stayed_in_order to processor (Switch previous state next) counting by order = (λ loss. by, order)
stayed_in_order to processor (WakeUp thread starts) counting by order = order
stayed_in_order to processor (Speed other khz) counting by order = order
stayed_in_order to processor Loss counting by order = order
stayed_in_order to processor Marker counting by order = order
stayed_in_order to processor Other counting by order = order

up_to_in_order : (to : ℕ) (past : List Said) → GoesOn (Some to) past → AreInOrder (up_to_time to past)
up_to_in_order to [] goes = tt
up_to_in_order to (Stamped event ∷ past) goes =
    let rest : AreInOrder (up_to_time to past) = up_to_in_order to past goes.1 in
    if_in_order (counts to event past) (Stamped event ∷ up_to_time to past)
    (if is_first_switch event (up_to_time to past) then stayed to event.processor event.happening ∷ up_to_time to past else up_to_time to past)
    (λ is. (
      λ loss.
          let within : event.time ≤ to = counts_by to event past is loss in
          counted_by to event.time past goes.1 within (goes.0 (le-leb event.time to within)),
      rest,
    ))
    (λ is. if_in_order (is_first_switch event (up_to_time to past)) (stayed to event.processor event.happening ∷ up_to_time to past) (up_to_time to past)
    (λ first. stayed_in_order to event.processor event.happening (up_to_time to past) (up_to_by to past) rest) (λ first. rest))
up_to_in_order to (Lost processor reach ∷ past) goes =
    let rest : AreInOrder (up_to_time to past) = up_to_in_order to past goes in
    if_in_order (nat_lt (lost_since processor reach past) to) (Lost processor reach ∷ up_to_time to past) (up_to_time to past) (λ is. rest) (λ is. rest)
up_to_in_order to (Nothing ∷ past) goes = up_to_in_order to past goes

counting_in_order : (to : Option ℕ) (past : List Said) → GoesOn to past → AreInOrder (up_to to past)
counting_in_order None past goes = all_in_order past goes
counting_in_order (Some to) past goes = up_to_in_order to past goes

-- # At the end

-- the stretch of who still has its processor then
abbrev closing : Asked → List Said → Standing → Stretch
closing asked past standing = record {
  processor = standing.processor;
  from = standing.since;
  to = last_asked asked past;
  khz = speed_after asked.start standing.processor (up_to asked.to past);
}

pub closed_ran : (P : Stretch → Type 0) (asked : Asked) (past : List Said) (known : Known) → Ran P known.jobs →
    ((standing : Standing) → known.on ≡ Some standing → P (closing asked past standing)) → Ran P (closed asked past known)
closed_ran P asked past known all new = by known.on new
  where
    by : (on : Option Standing) → ((standing : Standing) → on ≡ Some standing → P (closing asked past standing)) → Ran P (elim on [
      | None ↦ known.jobs
      | Some standing ↦ changed_last (ran (record {
        processor = standing.processor;
        from = standing.since;
        to = last_asked asked past;
        khz = speed_after asked.start standing.processor (up_to asked.to past);
      })) known.jobs
    ])
    by None new = all
    by (Some standing) new = more_ran P (closing asked past standing) known.jobs (new standing refl) all

-- what the stretches of one task are to those of another
closed_apart : (asked : Asked) (past : List Said) (n m : ℕ) → first_fault asked past ≡ None → n ≢ m →
    Ran (λ s. Ran (AreApart s) (closed asked past (known_after asked m (up_to asked.to past)))) (closed asked past (known_after asked n (up_to asked.to past)))
closed_apart asked past n m none other =
    let counting : List Said = up_to asked.to past in
    let known : ℕ → Known = all_known asked counting in
    let old = shares asked counting (counting_in_order asked.to past (lines_go_on asked past none)) in
    weaker_stretches (λ s. Ran (AreApart s) (known m).jobs × ((standing : Standing) → (known m).on ≡ Some standing → AreApart s (closing asked past standing)))
    (λ s. Ran (AreApart s) (closed asked past (known m))) (λ s both. closed_ran (AreApart s) asked past (known m) both.0 both.1) (closed asked past (known n))
    (closed_ran (λ s. Ran (AreApart s) (known m).jobs × ((standing : Standing) → (known m).on ≡ Some standing → AreApart s (closing asked past standing))) asked past (known n)
    (both_ran (λ s. Ran (AreApart s) (known m).jobs) (λ s. (standing : Standing) → (known m).on ≡ Some standing → AreApart s (closing asked past standing)) (known n).jobs
    (old.apart n m other)
    (for_each (λ (standing : Standing) s. (known m).on ≡ Some standing → AreApart s (closing asked past standing)) (known n).jobs (λ standing.
    for_each (λ (on : (known m).on ≡ Some standing) s. AreApart s (closing asked past standing)) (known n).jobs (λ on.
    weaker_stretches (EndsBy standing.processor standing.since) (λ s. AreApart s (closing asked past standing)) (λ s ended same. inl (ended same)) (known n).jobs
    (old.ended m n standing on)))))
    (λ standing on. (
      weaker_stretches (EndsBy standing.processor standing.since) (AreApart (closing asked past standing)) (λ t ended same. inr (ended (sym same))) (known m).jobs
          (old.ended n m standing on),
      λ also on_too same. absurd (other (old.alone n m standing also on on_too same)),
    )))

each_of_them : (P : Stretch → Type 0) (jobs : List Job) → Ran P jobs → EachStretch P (reverse jobs)
each_of_them P jobs all =
    All-from_recursion (λ (job : Job). All P job.stretches) (reverse jobs)
    (reverse-all (λ (job : Job). All P job.stretches) jobs
    (all_weaker (λ (job : Job). AllByRecursion P job.stretches) (λ (job : Job). All P job.stretches) (λ job own. All-from_recursion P job.stretches own) jobs all))

-- the law
pub tasks_have_own_time : TasksHaveOwnTime
tasks_have_own_time asked past none n m other =
    let theirs : List Job = closed asked past (known_after asked m (up_to asked.to past)) in
    let mine : List Job = closed asked past (known_after asked n (up_to asked.to past)) in
    each_of_them (λ s. EachStretch (AreApart s) (reverse theirs)) mine
    (weaker_stretches (λ s. Ran (AreApart s) theirs) (λ s. EachStretch (AreApart s) (reverse theirs)) (λ s all. each_of_them (AreApart s) theirs all) mine
    (closed_apart asked past n m none other))
