-- What holds of each job of a trace: what no change of a job takes away, and each new job has.
use Rattle.yds_model.proofs.Common.{◌≡◌, ℕ, ◌+◌, ◌≤◌, ◌&&◌, ◌||◌, ◌==◌, List, [], ◌∷◌, map, min, reverse, Bool, true, false, not, nat_lt, if◌then◌else◌, Option, Some, None, is_some, is_none, refl, subst, arith, All, All-from_recursion}
use Rattle.std.specs.Bool.{⊤}
use Rattle.std.specs.List.{AllByRecursion}
use Rattle.yds_kernel.specs.declared.state.State.{State}
use Rattle.yds_kernel.specs.declared.state.State.TheVariants as states
use Rattle.yds_kernel.specs.Event.{Happening, Switch, WakeUp, Speed, Loss, Marker, Other, Event, Said, Stamped, Lost, Nothing}
use Rattle.yds_trace.specs.declared.job.End.{End}
use Rattle.yds_trace.specs.declared.job.End.TheVariants as ends
use Rattle.yds_trace.specs.declared.job.Standing.{Standing}
use Rattle.yds_trace.specs.declared.job.Stretch.{Stretch}
use Rattle.yds_trace.specs.declared.job.Leaving.{Leaving}
use Rattle.yds_trace.specs.declared.job.Pace.{Pace}
use Rattle.yds_trace.specs.declared.job.Woken.{Woken}
use Rattle.yds_trace.specs.Asked.{Asked, task_at, pace_of, is_of}
use Rattle.yds_trace.specs.Past.{is_loss, lines_since, counts, is_first_switch, stayed, up_to_time, up_to, speed_after}
use Rattle.yds_trace.specs.Jobs.{Job, Known, new_job, began, due_behind, began_behind, reopened, woken_after, counted as counted_job, woken_jobs, went_on, unended, back_jobs, come_jobs, running_jobs, found_jobs, changed_last, ended, exits, missing, ran, loses, torn_jobs, torn, torn_if, comes, begun_by, begun_at_most, stretch_of, left_unseen, left_from, left_in, left_started, leaves, may_run, woken_at, wakes_up, speeds, lost_job, leaving_at, missing_of, left_if, came_if, after_switch, after_event, all_known, known_after}
use Rattle.yds_trace.specs.Late.{last_asked}
use Rattle.yds_trace.specs.Document.{closed, jobs_of}
use Rattle.yds_trace_laws.proofs.Runs.{reverse-all}

-- # Properties of jobs

-- no change of a job's stretches or wake-ups takes it away, nor does one of its end, but where it ends
pub record IsKept (P : Job → Type 0) : Type 0 where
  pub open_again : (job : Job) → P job → P (reopened job)
  pub slept : (time : ℕ) (job : Job) → P job → P (went_on time job)
  pub unwoken : (time : ℕ) (job : Job) → P job → P (unended time job)
  pub woken : (again : Bool) (job : Job) → P job → P (counted_job again job)
  pub torn : (job : Job) → P job → P (missing job)
  pub longer : (stretch : Stretch) (job : Job) → P job → P (ran stretch job)
  pub lost : (time : ℕ) (job : Job) → P job → P (lost_job time job)

-- a job that begins at this time has it, whose deadline counts from no later one, and one that begins by then keeps it
pub record Allows (P : Job → Type 0) (time : ℕ) : Type 0 where
  pub new : (due_from : ℕ) (certain : Bool) → due_from ≤ time → P (new_job time due_from certain)
  pub by : (job : Job) → P job → P (begun_at_most time job)

-- a job that ends keeps it, where one may end
abbrev pub Ends : (Job → Type 0) → State → Type 0
Ends P states.GoesOn = ⊤
Ends P states.Sleeps = (time : ℕ) (job : Job) → P job → P (ended time job)
Ends P states.Exits = (time : ℕ) (job : Job) → P job → P (exits time job)
Ends P states.Unknown = ⊤

abbrev pub EndsAt : (Job → Type 0) → Happening → Type 0
EndsAt P (Switch previous state next) = Ends P state
EndsAt P (WakeUp thread starts) = ⊤
EndsAt P (Speed processor khz) = ⊤
EndsAt P Loss = ⊤
EndsAt P Marker = ⊤
EndsAt P Other = ⊤

-- No job begins at a line that only tells of a loss.
abbrev pub AllowsAt : (Job → Type 0) → Happening → ℕ → Type 0
AllowsAt P happening time = is_loss happening ≡ false → Allows P time

abbrev pub AllowsLine : (Job → Type 0) → Said → Type 0
AllowsLine P (Stamped event) = AllowsAt P event.happening event.time × EndsAt P event.happening
AllowsLine P (Lost processor reach) = ⊤
AllowsLine P Nothing = ⊤

abbrev pub AllowsEach : (Job → Type 0) → List Said → Type 0
AllowsEach P past = AllByRecursion (AllowsLine P) past

-- it holds of each of these jobs
abbrev Hold : (Job → Type 0) → List Job → Type 0
Hold P jobs = AllByRecursion P jobs

-- It holds of each job that is known, and a job may begin where a wake-up was started, and where its thread came to its processor.
record Holds (P : Job → Type 0) (known : Known) : Type 0 where
  jobs : Hold P known.jobs
  started : (time : ℕ) → known.woken.started ≡ Some time → Allows P time
  came : (standing : Standing) → known.on ≡ Some standing → Allows P standing.came

-- # Cases

if_hold : (P : Job → Type 0) (b : Bool) (jobs others : List Job) → Hold P jobs → Hold P others → Hold P (if b then jobs else others)
if_hold P true jobs others all other = all
if_hold P false jobs others all other = other

by_end : (P : Job → Type 0) (end : End) (whole : List Job) (ended : ℕ → List Job) (lost : ℕ → List Job) →
    Hold P whole → ((time : ℕ) → Hold P (ended time)) → ((time : ℕ) → Hold P (lost time)) →
    Hold P (elim end [ ends.Open ↦ whole | ends.Ended time ↦ ended time | ends.Lost time ↦ lost time ])
by_end P ends.Open whole ended lost a b c = a
by_end P (ends.Ended time) whole ended lost a b c = b time
by_end P (ends.Lost time) whole ended lost a b c = c time

-- # A job begins, goes on, or ends

changed_hold : (P : Job → Type 0) (change : Job → Job) → ((job : Job) → P job → P (change job)) → (jobs : List Job) → Hold P jobs → Hold P (changed_last change jobs)
changed_hold P change keeps [] all = tt
changed_hold P change keeps (job ∷ jobs) all = (keeps job all.0, all.1)

began_hold : (P : Job → Type 0) (time : ℕ) (certain : Bool) (jobs : List Job) → Allows P time → Hold P jobs → Hold P (began time certain jobs)
began_hold P time certain jobs now all = (now.new time certain (omega arith), all)

-- No deadline counts from a time behind its job's begin.
due_early : (period time : ℕ) (before : Job) → due_behind period time before ≤ time
due_early period time before = by (before.begin_known && not (period == 0))
  where
    by : (b : Bool) → (if b then min time (before.due_from + period) else time) ≤ time
    by true = omega arith
    by false = omega arith

behind_hold : (P : Job → Type 0) (period time : ℕ) (job : Job) (jobs : List Job) → Allows P time → Hold P (job ∷ jobs) → Hold P (began_behind period time job jobs)
behind_hold P period time job jobs now all = (now.new (due_behind period time job) true (due_early period time job), all)

woken_after_hold : (P : Job → Type 0) → IsKept P → (pace : Pace) (time : ℕ) (job : Job) (jobs : List Job) → Allows P time → Hold P (job ∷ jobs) → Hold P (woken_after pace time job jobs)
woken_after_hold P kept pace time job jobs now all =
    if_hold P (not (nat_lt time (job.begin + pace.apart))) (began_behind pace.period time job jobs)
    (if job.begin_known then reopened job ∷ jobs else began time false (job ∷ jobs)) (behind_hold P pace.period time job jobs now all)
    (if_hold P job.begin_known (reopened job ∷ jobs) (began time false (job ∷ jobs)) (kept.open_again job all.0, all.1) (began_hold P time false (job ∷ jobs) now all))

woken_hold : (P : Job → Type 0) → IsKept P → (pace : Pace) (time : ℕ) (again : Bool) (jobs : List Job) → Allows P time → Hold P jobs → Hold P (woken_jobs pace time again jobs)
woken_hold P kept pace time again [] now all = began_hold P time true [] now all
woken_hold P kept pace time again (job ∷ jobs) now all =
    by_end P job.end (counted_job again job ∷ jobs) (λ end. woken_after pace time job jobs) (λ last. began time true (job ∷ jobs))
    (kept.woken again job all.0, all.1) (λ end. woken_after_hold P kept pace time job jobs now all) (λ last. began_hold P time true (job ∷ jobs) now all)

back_hold : (P : Job → Type 0) → IsKept P → (pace : Pace) (time end : ℕ) (ever : Bool) (started : Option ℕ) (job : Job) (jobs : List Job) → Allows P time →
    ((at : ℕ) → started ≡ Some at → Allows P at) → Hold P (job ∷ jobs) → Hold P (back_jobs pace time end ever started job jobs)
back_hold P kept pace time end ever None job jobs now starts all =
    if_hold P (ever && is_none job.slept) (went_on end job ∷ jobs) (began time false (unended end job ∷ jobs)) (kept.slept end job all.0, all.1)
    (began_hold P time false (unended end job ∷ jobs) now (kept.unwoken end job all.0, all.1))
back_hold P kept pace time end ever (Some woken) job jobs now starts all = woken_after_hold P kept pace woken job jobs (starts woken refl) all

come_hold : (P : Job → Type 0) → IsKept P → (pace : Pace) (time : ℕ) (woken : Woken) (jobs : List Job) → Allows P time →
    ((at : ℕ) → woken.started ≡ Some at → Allows P at) → Hold P jobs → Hold P (come_jobs pace time woken jobs)
come_hold P kept pace time woken [] now starts all = began_hold P time false [] now all
come_hold P kept pace time woken (job ∷ jobs) now starts all =
    by_end P job.end (job ∷ jobs) (λ end. if woken.seen then back_jobs pace time end woken.ever woken.started job jobs else began time false (job ∷ jobs))
    (λ last. began time false (job ∷ jobs)) all
    (λ end. if_hold P woken.seen (back_jobs pace time end woken.ever woken.started job jobs) (began time false (job ∷ jobs))
    (back_hold P kept pace time end woken.ever woken.started job jobs now starts all) (began_hold P time false (job ∷ jobs) now all))
    (λ last. began_hold P time false (job ∷ jobs) now all)

running_hold : (P : Job → Type 0) → IsKept P → (pace : Pace) (time : ℕ) (jobs : List Job) → Allows P time → Hold P jobs → Hold P (running_jobs pace time jobs)
running_hold P kept pace time [] now all = began_hold P time false [] now all
running_hold P kept pace time (job ∷ jobs) now all =
    by_end P job.end (job ∷ jobs) (λ end. woken_after pace time job jobs) (λ last. began time false (job ∷ jobs))
    all (λ end. woken_after_hold P kept pace time job jobs now all) (λ last. began_hold P time false (job ∷ jobs) now all)

found_hold : (P : Job → Type 0) (time : ℕ) (certain : Bool) (jobs : List Job) → Allows P time → Hold P jobs → Hold P (found_jobs time certain jobs)
found_hold P time certain [] now all = began_hold P time certain [] now all
found_hold P time certain (job ∷ jobs) now all =
    by_end P job.end (job ∷ jobs) (λ end. began time certain (job ∷ jobs)) (λ last. began time certain (job ∷ jobs)) all
    (λ end. began_hold P time certain (job ∷ jobs) now all) (λ last. began_hold P time certain (job ∷ jobs) now all)

begun_hold : (P : Job → Type 0) (time : ℕ) (jobs : List Job) → Allows P time → Hold P jobs → Hold P (begun_by time jobs)
begun_hold P time [] now all = began_hold P time false [] now all
begun_hold P time (job ∷ jobs) now all =
    by_end P job.end (begun_at_most time job ∷ jobs) (λ end. began time false (job ∷ jobs)) (λ last. began time false (job ∷ jobs))
    (now.by job all.0, all.1) (λ end. began_hold P time false (job ∷ jobs) now all) (λ last. began_hold P time false (job ∷ jobs) now all)

-- # Losses

lost_hold : (P : Job → Type 0) → IsKept P → (time : ℕ) (jobs : List Job) → Hold P jobs → Hold P (map (lost_job time) jobs)
lost_hold P kept time [] all = tt
lost_hold P kept time (job ∷ jobs) all = (kept.lost time job all.0, lost_hold P kept time jobs all.1)

loses_holds : (P : Job → Type 0) → IsKept P → (time : ℕ) (known : Known) → Hold P known.jobs → Holds P (loses time known)
loses_holds P kept time known all = record {
  jobs = lost_hold P kept time known.jobs all;
  started = λ at none. absurd (cc none);
  came = λ standing none. absurd (cc none);
}

torn_jobs_hold : (P : Job → Type 0) → IsKept P → (since came : ℕ) (jobs : List Job) → Allows P came → Hold P jobs → Hold P (torn_jobs since came jobs)
torn_jobs_hold P kept since came jobs now all =
    if_hold P (nat_lt since came) (began came false (map (lost_job since) jobs)) jobs
    (began_hold P came false (map (lost_job since) jobs) now (lost_hold P kept since jobs all)) all

torn_holds : (P : Job → Type 0) → IsKept P → (left came : Bool) (processor since : ℕ) (known : Known) → Holds P known → Holds P (torn left came processor since known)
torn_holds P kept left came processor since known is = by known.on refl
  where
    other : (standing : Standing) → known.on ≡ Some standing → (b : Bool) →
        Holds P (if b then loses since known else record known { jobs = torn_jobs since standing.came known.jobs })
    other standing on true = loses_holds P kept since known is.jobs
    other standing on false = record {
      jobs = torn_jobs_hold P kept since standing.came known.jobs (is.came standing on) is.jobs;
      started = is.started;
      came = is.came;
    }

    by : (on : Option Standing) → known.on ≡ on → (let after : Known = elim on [
      | None ↦ loses since known
      | Some standing ↦ if left || came || (standing.processor == processor) then loses since known
          else record known { jobs = torn_jobs since standing.came known.jobs }
    ] in Holds P after)
    by None on = loses_holds P kept since known is.jobs
    by (Some standing) on = other standing on (left || came || (standing.processor == processor))

torn_if_holds : (P : Job → Type 0) → IsKept P → (left came : Bool) (processor : ℕ) (since : Option ℕ) (known : Known) → Holds P known →
    Holds P (torn_if left came processor since known)
torn_if_holds P kept left came processor None known is = is
torn_if_holds P kept left came processor (Some since) known is = torn_holds P kept left came processor since known is

-- # A thread's switches

comes_holds : (P : Job → Type 0) → IsKept P → (pace : Pace) (wakes : Bool) (processor time : ℕ) (known : Known) → Allows P time → Holds P known →
    Holds P (comes pace wakes processor time known)
comes_holds P kept pace wakes processor time known now is = record {
  jobs = if_hold P wakes (come_jobs pace time known.woken known.jobs) (running_jobs pace time known.jobs)
      (come_hold P kept pace time known.woken known.jobs now is.started is.jobs) (running_hold P kept pace time known.jobs now is.jobs);
  started = λ at none. absurd (cc none);
  came = λ standing on.
      let same : record { processor = processor; came = time; since = time } ≡ standing = cc on in subst (λ (one : Standing). Allows P one.came) same now;
}

left_unseen_hold : (P : Job → Type 0) → IsKept P → (pace : Pace) (wakes torn : Bool) (leaving : Leaving) (known : Known) → Allows P leaving.time → Allows P leaving.lines_since →
    Holds P known → Hold P (left_unseen pace wakes torn leaving known)
left_unseen_hold P kept pace wakes torn leaving known now lines is =
    if_hold P leaving.renamed (found_jobs leaving.time true known.jobs)
    (if not torn && is_none leaving.switched && not known.woken.seen
    then changed_last (ran (stretch_of leaving leaving.lines_since)) (begun_by leaving.lines_since known.jobs)
    else changed_last missing (if wakes then come_jobs pace leaving.time known.woken known.jobs else found_jobs leaving.time false known.jobs))
    (found_hold P leaving.time true known.jobs now is.jobs)
    (if_hold P (not torn && is_none leaving.switched && not known.woken.seen)
    (changed_last (ran (stretch_of leaving leaving.lines_since)) (begun_by leaving.lines_since known.jobs))
    (changed_last missing (if wakes then come_jobs pace leaving.time known.woken known.jobs else found_jobs leaving.time false known.jobs))
    (changed_hold P (ran (stretch_of leaving leaving.lines_since)) (kept.longer (stretch_of leaving leaving.lines_since)) (begun_by leaving.lines_since known.jobs)
    (begun_hold P leaving.lines_since known.jobs lines is.jobs))
    (changed_hold P missing kept.torn (if wakes then come_jobs pace leaving.time known.woken known.jobs else found_jobs leaving.time false known.jobs)
    (if_hold P wakes (come_jobs pace leaving.time known.woken known.jobs) (found_jobs leaving.time false known.jobs)
    (come_hold P kept pace leaving.time known.woken known.jobs now is.started is.jobs) (found_hold P leaving.time false known.jobs now is.jobs))))

left_from_hold : (P : Job → Type 0) → IsKept P → (pace : Pace) (wakes torn : Bool) (leaving : Leaving) (known : Known) → Allows P leaving.time → Allows P leaving.lines_since →
    Holds P known → Hold P (left_from pace wakes torn leaving known)
left_from_hold P kept pace wakes torn leaving known now lines is = by known.on
  where
    by : (on : Option Standing) → Hold P (elim on [
      | None ↦ left_unseen pace wakes torn leaving known
      | Some standing ↦ changed_last (ran (stretch_of leaving standing.since)) known.jobs
    ])
    by None = left_unseen_hold P kept pace wakes torn leaving known now lines is
    by (Some standing) = changed_hold P (ran (stretch_of leaving standing.since)) (kept.longer (stretch_of leaving standing.since)) known.jobs is.jobs

left_in_hold : (P : Job → Type 0) → IsKept P → (state : State) (time : ℕ) (jobs : List Job) → Ends P state → Hold P jobs → Hold P (left_in state time jobs)
left_in_hold P kept states.GoesOn time jobs ends all = all
left_in_hold P kept states.Sleeps time jobs ends all = changed_hold P (ended time) (ends time) jobs all
left_in_hold P kept states.Exits time jobs ends all = changed_hold P (exits time) (ends time) jobs all
left_in_hold P kept states.Unknown time jobs ends all = changed_hold P (lost_job time) (kept.lost time) jobs all

-- What was started before a switch is what was started behind it.
leaving_starts : (P : Job → Type 0) (state : State) (started : Option ℕ) → ((time : ℕ) → started ≡ Some time → Allows P time) →
    (time : ℕ) → left_started state started ≡ Some time → Allows P time
leaving_starts P states.Sleeps started starts time is = starts time is
leaving_starts P states.GoesOn started starts time is = absurd (cc is)
leaving_starts P states.Exits started starts time is = absurd (cc is)
leaving_starts P states.Unknown started starts time is = absurd (cc is)

leaves_holds : (P : Job → Type 0) → IsKept P → (pace : Pace) (wakes torn : Bool) (state : State) (leaving : Leaving) (known : Known) → Allows P leaving.time →
    Allows P leaving.lines_since → Ends P state → Holds P known → Holds P (leaves pace wakes torn state leaving known)
leaves_holds P kept pace wakes torn state leaving known now lines ends is = record {
  jobs = left_in_hold P kept state leaving.time (left_from pace wakes torn leaving known) ends (left_from_hold P kept pace wakes torn leaving known now lines is);
  started = leaving_starts P state known.woken.started is.started;
  came = λ standing none. absurd (cc none);
}

left_if_holds : (P : Job → Type 0) → IsKept P → (pace : Pace) (wakes torn mine : Bool) (state : State) (leaving : Leaving) (known : Known) → Allows P leaving.time →
    Allows P leaving.lines_since → Ends P state → Holds P known → Holds P (left_if pace wakes torn mine state leaving known)
left_if_holds P kept pace wakes torn true state leaving known now lines ends is = leaves_holds P kept pace wakes torn state leaving known now lines ends is
left_if_holds P kept pace wakes torn false state leaving known now lines ends is = is

came_if_holds : (P : Job → Type 0) → IsKept P → (pace : Pace) (wakes mine : Bool) (leaving : Leaving) (known : Known) → Allows P leaving.time → Holds P known →
    Holds P (came_if pace wakes mine leaving known)
came_if_holds P kept pace wakes true leaving known now is = comes_holds P kept pace wakes leaving.processor leaving.time known now is
came_if_holds P kept pace wakes false leaving known now is = is

switch_holds : (P : Job → Type 0) → IsKept P → (pace : Pace) (wakes left came : Bool) (state : State) (leaving : Leaving) (since : Option ℕ) (known : Known) → Allows P leaving.time →
    Allows P leaving.lines_since → Ends P state → Holds P known → Holds P (after_switch pace wakes left came state leaving since known)
switch_holds P kept pace wakes left came state leaving since known now lines ends is =
    let before : Known = torn_if left came leaving.processor since known in
    came_if_holds P kept pace wakes came leaving (left_if pace wakes (is_some since) left state leaving before) now
    (left_if_holds P kept pace wakes (is_some since) left state leaving before now lines ends (torn_if_holds P kept left came leaving.processor since known is))

-- # Other events

-- When a wake-up begins a job.
woken_allows : (P : Job → Type 0) (starts : Bool) (time : ℕ) (started : Option ℕ) → Allows P time → ((at : ℕ) → started ≡ Some at → Allows P at) →
    Allows P (woken_at starts time started)
woken_allows P true time started now before = now
woken_allows P false time None now before = now
woken_allows P false time (Some at) now before = before at refl

wakes_starts : (P : Job → Type 0) (starts : Bool) (time : ℕ) → Allows P time → (at : ℕ) → (if starts then Some time else None) ≡ Some at → Allows P at
wakes_starts P true time now at is = let same : time ≡ at = cc is in subst (Allows P) same now
wakes_starts P false time now at is = absurd (cc is)

wakes_holds : (P : Job → Type 0) → IsKept P → (mine : Bool) (pace : Pace) (starts : Bool) (time : ℕ) (known : Known) → Allows P time → Holds P known →
    Holds P (if mine then wakes_up pace starts time known else known)
wakes_holds P kept true pace starts time known now is = record {
  jobs = woken_hold P kept pace (woken_at starts time known.woken.started) known.woken.came known.jobs (woken_allows P starts time known.woken.started now is.started) is.jobs;
  started = wakes_starts P (starts && may_run known) time now;
  came = is.came;
}
wakes_holds P kept false pace starts time known now is = is

-- the stretch that a change of speed ends
abbrev until_change : ℕ → ℕ → Option ℕ → Standing → Stretch
until_change processor time khz standing = record { processor = processor; from = standing.since; to = time; khz = khz }

speeds_holds : (P : Job → Type 0) → IsKept P → (processor time : ℕ) (khz : Option ℕ) (known : Known) → Holds P known → Holds P (speeds processor time khz known)
speeds_holds P kept processor time khz known is = by known.on refl
  where
    there : (standing : Standing) → known.on ≡ Some standing → (b : Bool) → Holds P (if b then record {
      jobs = changed_last (ran (until_change processor time khz standing)) known.jobs;
      on = Some (record standing { since = time });
      woken = known.woken;
    } else known)
    there standing on true = record {
      jobs = changed_hold P (ran (until_change processor time khz standing)) (kept.longer (until_change processor time khz standing)) known.jobs is.jobs;
      started = is.started;
      came = λ other now.
          let same : record standing { since = time } ≡ other = cc now in subst (λ (one : Standing). Allows P one.came) same (is.came standing on);
    }
    there standing on false = is

    by : (on : Option Standing) → known.on ≡ on → (let after : Known = elim on [
      | None ↦ known
      | Some standing ↦ if standing.processor == processor then record {
        jobs = changed_last (ran (record { processor = processor; from = standing.since; to = time; khz = khz })) known.jobs;
        on = Some (record standing { since = time });
        woken = known.woken;
      } else known
    ] in Holds P after)
    by None on = is
    by (Some standing) on = there standing on (standing.processor == processor)

-- # The lines of a trace

lines_if : (P : Job → Type 0) (b : Bool) (here there : ℕ) → (b ≡ true → Allows P here) → (b ≡ false → Allows P there) → Allows P (if b then here else there)
lines_if P true here there now later = now refl
lines_if P false here there now later = later refl

-- a job may begin where a processor's lines begin
lines_allow : (P : Job → Type 0) (processor here : ℕ) (past : List Said) → Allows P here → AllowsEach P past → Allows P (lines_since processor here past)
lines_allow P processor here [] now each = now
lines_allow P processor here (Stamped event ∷ past) now each =
    lines_if P (is_loss event.happening) here (lines_since processor (if event.processor == processor then event.time else here) past) (λ loss. now)
    (λ none. lines_allow P processor (if event.processor == processor then event.time else here) past
    (lines_if P (event.processor == processor) event.time here (λ same. each.0.0 none) (λ other. now)) each.1)
lines_allow P processor here (Lost other reach ∷ past) now each = now
lines_allow P processor here (Nothing ∷ past) now each = lines_allow P processor here past now each.1

event_holds : (P : Job → Type 0) → IsKept P → (asked : Asked) (number : ℕ) (past : List Said) (event : Event) (happening : Happening) (known : ℕ → Known) → AllowsAt P happening event.time →
    EndsAt P happening → AllowsEach P past → Holds P (known number) → Holds P (after_event asked number past event happening known)
event_holds P kept asked number past event (Switch previous state next) known now ends each is =
    let leaving : Leaving = leaving_at asked past event previous in
    switch_holds P kept (pace_of (task_at asked number)) (not asked.begin_at_run) (is_of asked number previous) (is_of asked number next) state leaving
    (missing_of asked previous next leaving known 0 asked.tasks) (known number) (now refl) (lines_allow P event.processor event.time past (now refl) each) ends is
event_holds P kept asked number past event (WakeUp thread begins) known now ends each is =
    wakes_holds P kept (is_of asked number thread && not asked.begin_at_run) (pace_of (task_at asked number)) begins event.time (known number) (now refl) is
event_holds P kept asked number past event (Speed processor khz) known now ends each is =
    speeds_holds P kept processor event.time (speed_after asked.start processor past) (known number) is
event_holds P kept asked number past event Loss known now ends each is = loses_holds P kept _ (known number) is.jobs
event_holds P kept asked number past event Marker known now ends each is = is
event_holds P kept asked number past event Other known now ends each is = is

known_holds : (P : Job → Type 0) → IsKept P → (asked : Asked) (number : ℕ) (past : List Said) → AllowsEach P past → Holds P (known_after asked number past)
known_holds P kept asked number [] each = record { jobs = tt; started = λ time none. absurd (cc none); came = λ standing none. absurd (cc none) }
known_holds P kept asked number (Stamped event ∷ past) each =
    event_holds P kept asked number past event event.happening (all_known asked past) each.0.0 each.0.1 each.1 (known_holds P kept asked number past each.1)
known_holds P kept asked number (Lost processor reach ∷ past) each =
    loses_holds P kept _ (known_after asked number past) (known_holds P kept asked number past each.1).jobs
known_holds P kept asked number (Nothing ∷ past) each = known_holds P kept asked number past each.1

-- # The lines up to `to`

if_allows : (P : Job → Type 0) (b : Bool) (past other : List Said) → (b ≡ true → AllowsEach P past) → AllowsEach P other → AllowsEach P (if b then past else other)
if_allows P true past other each others = each refl
if_allows P false past other each others = others

stayed_allows : (P : Job → Type 0) (to processor : ℕ) (happening : Happening) → Allows P to → AllowsLine P (stayed to processor happening)
stayed_allows P to processor (Switch previous state next) now = (λ none. now, tt)
stayed_allows P to processor (WakeUp thread starts) now = tt
stayed_allows P to processor (Speed other khz) now = tt
stayed_allows P to processor Loss now = tt
stayed_allows P to processor Marker now = tt
stayed_allows P to processor Other now = tt

-- a line of the trace that counts
abbrev pub WhereCounts : (Job → Type 0) → ℕ → List Said → Type 0
WhereCounts P to [] = ⊤
WhereCounts P to (Stamped event ∷ past) = (counts to event past ≡ true → AllowsLine P (Stamped event)) × WhereCounts P to past
WhereCounts P to (Lost processor reach ∷ past) = WhereCounts P to past
WhereCounts P to (Nothing ∷ past) = WhereCounts P to past

pub counting_allows : (P : Job → Type 0) (to : ℕ) (past : List Said) → Allows P to → WhereCounts P to past → AllowsEach P (up_to_time to past)
counting_allows P to [] now each = tt
counting_allows P to (Stamped event ∷ past) now each =
    let rest : AllowsEach P (up_to_time to past) = counting_allows P to past now each.1 in
    if_allows P (counts to event past) (Stamped event ∷ up_to_time to past)
    (if is_first_switch event (up_to_time to past) then stayed to event.processor event.happening ∷ up_to_time to past else up_to_time to past)
    (λ counting. (each.0 counting, rest))
    (if_allows P (is_first_switch event (up_to_time to past)) (stayed to event.processor event.happening ∷ up_to_time to past) (up_to_time to past)
    (λ first. (stayed_allows P to event.processor event.happening now, rest)) rest)
counting_allows P to (Lost processor reach ∷ past) now each =
    let rest : AllowsEach P (up_to_time to past) = counting_allows P to past now each in
    if_allows P _ (Lost processor reach ∷ up_to_time to past) (up_to_time to past) (λ counting. (tt, rest)) rest
counting_allows P to (Nothing ∷ past) now each = counting_allows P to past now each

-- # All jobs

closed_on : (P : Job → Type 0) → IsKept P → (last : ℕ) (speed : ℕ → Option ℕ) (on : Option Standing) (jobs : List Job) → Hold P jobs →
    Hold P (elim on [
      | None ↦ jobs
      | Some standing ↦ changed_last (ran (record { processor = standing.processor; from = standing.since; to = last; khz = speed standing.processor })) jobs
    ])
closed_on P kept last speed None jobs all = all
closed_on P kept last speed (Some standing) jobs all =
    changed_hold P (ran (record { processor = standing.processor; from = standing.since; to = last; khz = speed standing.processor }))
    (kept.longer (record { processor = standing.processor; from = standing.since; to = last; khz = speed standing.processor })) jobs all

-- What each new job has and no change takes away holds of each job.
pub each_job : (P : Job → Type 0) → IsKept P → (asked : Asked) (past : List Said) (number : ℕ) → AllowsEach P (up_to asked.to past) → All P (jobs_of asked past number)
each_job P kept asked past number each =
    let known : Known = known_after asked number (up_to asked.to past) in
    All-from_recursion P (reverse (closed asked past known))
    (reverse-all P (closed asked past known)
    (closed_on P kept (last_asked asked past) (λ processor. speed_after asked.start processor (up_to asked.to past)) known.on known.jobs
    (known_holds P kept asked number (up_to asked.to past) each).jobs))
