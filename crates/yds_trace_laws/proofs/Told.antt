-- Each job ran where a line of the trace tells of the processor.
use Rattle.yds_model.proofs.Common.{◌≡◌, ◌≢◌, ◌∙◌, ℕ, ◌+◌, ◌&&◌, true, sym, ◌<◌, ◌≤◌, max, List, [], ◌∷◌, map, Bool, not, if◌then◌else◌, Option, Some, None, arith, All-from_recursion}
use Rattle.std.specs.List.{AllByRecursion, enumerate_from}
use Rattle.yds_kernel.specs.Event.{Happening, Switch, WakeUp, Speed, Loss, Marker, Other, Event, Said, Stamped, Lost, Nothing}
use Rattle.yds_trace.specs.declared.job.Stretch.{Stretch}
use Rattle.yds_trace.specs.declared.job.Standing.{Standing}
use Rattle.yds_trace.specs.declared.job.Leaving.{Leaving}
use Rattle.yds_trace.specs.Asked.{Task, Asked, task_at, pace_of, is_of}
use Rattle.yds_trace.specs.Past.{next_processor, processor_count, counts, is_first_switch, stayed, up_to_time, up_to, speed_after}
use Rattle.yds_trace.specs.Jobs.{Job, Known, leaving_at, missing_of, after_event, all_known, known_after}
use Rattle.yds_trace.specs.Document.{Judged, closed, jobs_of, shares_of, began_before, judged, judged_of, judged_from, all_judged}
use Rattle.yds_trace_laws.specs.Processors.{RanWhereTold, EachRanWhereTold}
use Rattle.yds_trace_laws.proofs.Ordered.{append-all, either_all, in_order-all}
use Rattle.yds_trace_laws.proofs.Runs.{all_weaker, reverse-all}
use Rattle.yds_trace_laws.proofs.Shares.{shares_ran}
use Rattle.yds_trace_laws.proofs.Sharing.{Ran, IsLeft, IsOn, Still, Fresh, left_at, lost_ran, switch_ran, switch_on, speeds_ran, speeds_on, woken_known, woken_on, closed_ran}

-- on a processor below this number
abbrev pub IsUnder : ℕ → Stretch → Type 0
IsUnder bound stretch = stretch.processor < bound

-- the lines tell of no processor from this number on
abbrev pub TellUnder : ℕ → List Said → Type 0
TellUnder bound past = AllByRecursion (λ said. next_processor said ≤ bound) past

-- it ran, and runs, on processors below it
record RunsUnder (bound : ℕ) (known : Known) : Type 0 where
  ran : Ran (IsUnder bound) known.jobs
  on : (standing : Standing) → known.on ≡ Some standing → standing.processor < bound

-- # An event

left_under : (bound : ℕ) (known : Known) (leaving : Leaving) (stretch : Stretch) → leaving.processor < bound → IsLeft known leaving stretch → IsUnder bound stretch
left_under bound known leaving stretch here left =
    let there : stretch.processor ≡ leaving.processor = (left_at known leaving stretch left).0 in omega (arith, there, here)

on_under : (bound : ℕ) (before : Option Standing) (away : Standing → Type 0) (processor time : ℕ) (fresh : Type 0) (standing : Standing) →
    ((one : Standing) → before ≡ Some one → one.processor < bound) → (fresh → processor < bound) → IsOn before away processor time fresh standing → standing.processor < bound
on_under bound before away processor time fresh standing old new (Still on elsewhere) = old standing on
on_under bound before away processor time fresh standing old new (Fresh how there now) = let here : processor < bound = new how in omega (arith, here, there)

event_under : (bound : ℕ) (asked : Asked) (number : ℕ) (past : List Said) (event : Event) (happening : Happening) (known : ℕ → Known) → event.processor < bound →
    RunsUnder bound (known number) → RunsUnder bound (after_event asked number past event happening known)
event_under bound asked number past event (Switch previous state next) known here is = record {
  ran = switch_ran (IsUnder bound) (pace_of (task_at asked number)) (not asked.begin_at_run) (is_of asked number previous) (is_of asked number next) state leaving since
      (known number) is.ran (λ left none stretch new. left_under bound (known number) leaving stretch here new);
  on = λ standing now.
      on_under bound (known number).on (λ one. Unit {0}) event.processor event.time (is_of asked number next ≡ true) standing is.on (λ came. here)
      (switch_on (λ one. Unit {0}) (pace_of (task_at asked number)) (not asked.begin_at_run) (is_of asked number previous) (is_of asked number next) state leaving since
      (known number) (λ one on off none. tt) standing now);
}
  where
    leaving : Leaving
    leaving = leaving_at asked past event previous

    since : Option ℕ
    since = missing_of asked previous next leaving known 0 asked.tasks
event_under bound asked number past event (WakeUp thread starts) known here is = record {
  ran = woken_known (IsUnder bound) (is_of asked number thread && not asked.begin_at_run) (pace_of (task_at asked number)) starts event.time (known number) is.ran;
  on = λ standing now.
      is.on standing (sym (woken_on (is_of asked number thread && not asked.begin_at_run) (pace_of (task_at asked number)) starts event.time (known number)) ∙ now);
}
event_under bound asked number past event (Speed processor khz) known here is = record {
  ran = speeds_ran (IsUnder bound) processor event.time (speed_after asked.start processor past) (known number) is.ran
      (λ standing on there. let old : standing.processor < bound = is.on standing on in omega (arith, old, there));
  on = λ standing now.
      on_under bound (known number).on (λ (one : Standing). one.processor ≢ processor) processor event.time
      ((before : Standing) × ((known number).on ≡ Some before) × (before.processor ≡ processor)) standing is.on
      (λ goes. let old : goes.0.processor < bound = is.on goes.0 goes.1 in omega (arith, old, goes.2))
      (speeds_on processor event.time (speed_after asked.start processor past) (known number) standing now);
}
event_under bound asked number past event Loss known here is = record { ran = lost_ran (IsUnder bound) _ (known number).jobs is.ran; on = λ standing now. absurd (cc now) }
event_under bound asked number past event Marker known here is = is
event_under bound asked number past event Other known here is = is

known_under : (bound : ℕ) (asked : Asked) (number : ℕ) (past : List Said) → TellUnder bound past → RunsUnder bound (known_after asked number past)
known_under bound asked number [] tell = record { ran = tt; on = λ standing now. absurd (cc now) }
known_under bound asked number (Stamped event ∷ past) tell =
    let here : event.processor < bound = omega (arith, tell.0) in
    event_under bound asked number past event event.happening (all_known asked past) here (known_under bound asked number past tell.1)
known_under bound asked number (Lost processor reach ∷ past) tell = record {
  ran = lost_ran (IsUnder bound) _ (known_after asked number past).jobs (known_under bound asked number past tell.1).ran;
  on = λ standing now. absurd (cc now);
}
known_under bound asked number (Nothing ∷ past) tell = known_under bound asked number past tell.1

-- # The lines that count

stayed_under : (bound to processor : ℕ) (happening : Happening) → processor < bound → next_processor (stayed to processor happening) ≤ bound
stayed_under bound to processor (Switch previous state next) here = omega (arith, here)
stayed_under bound to processor (WakeUp thread starts) here = omega arith
stayed_under bound to processor (Speed other khz) here = omega arith
stayed_under bound to processor Loss here = omega arith
stayed_under bound to processor Marker here = omega arith
stayed_under bound to processor Other here = omega arith

counting_under : (bound to : ℕ) (past : List Said) → TellUnder bound past → TellUnder bound (up_to_time to past)
counting_under bound to [] tell = tt
counting_under bound to (Stamped event ∷ past) tell =
    let rest : TellUnder bound (up_to_time to past) = counting_under bound to past tell.1 in
    let here : event.processor < bound = omega (arith, tell.0) in
    either_all (λ said. next_processor said ≤ bound) (counts to event past) (Stamped event ∷ up_to_time to past)
    (if is_first_switch event (up_to_time to past) then stayed to event.processor event.happening ∷ up_to_time to past else up_to_time to past) (tell.0, rest)
    (either_all (λ said. next_processor said ≤ bound) (is_first_switch event (up_to_time to past)) (stayed to event.processor event.happening ∷ up_to_time to past)
    (up_to_time to past) (stayed_under bound to event.processor event.happening here, rest) rest)
counting_under bound to (Lost processor reach ∷ past) tell =
    let rest : TellUnder bound (up_to_time to past) = counting_under bound to past tell.1 in
    either_all (λ said. next_processor said ≤ bound) _ (Lost processor reach ∷ up_to_time to past) (up_to_time to past) (tell.0, rest) rest
counting_under bound to (Nothing ∷ past) tell = counting_under bound to past tell.1

up_to_under : (bound : ℕ) (to : Option ℕ) (past : List Said) → TellUnder bound past → TellUnder bound (up_to to past)
up_to_under bound None past tell = tell
up_to_under bound (Some to) past tell = counting_under bound to past tell

-- # All jobs

-- the jobs of a task
pub jobs_under : (bound : ℕ) (asked : Asked) (past : List Said) (number : ℕ) → TellUnder bound past → Ran (IsUnder bound) (jobs_of asked past number)
jobs_under bound asked past number tell =
    let known : Known = known_after asked number (up_to asked.to past) in
    let is : RunsUnder bound known = known_under bound asked number (up_to asked.to past) (up_to_under bound asked.to past tell) in
    reverse-all (λ (job : Job). AllByRecursion (IsUnder bound) job.stretches) (closed asked past known) (closed_ran (IsUnder bound) asked past known is.ran is.on)

-- of a job that is judged
abbrev pub RanUnder : ℕ → Judged → Type 0
RanUnder bound one = AllByRecursion (IsUnder bound) one.job.stretches

numbered_under : (bound : ℕ) (asked : Asked) (past : List Said) (number : ℕ) (before : Bool) (start : ℕ) (jobs : List Job) → Ran (IsUnder bound) jobs →
    AllByRecursion (RanUnder bound) (map (judged asked past number before) (enumerate_from start jobs))
numbered_under bound asked past number before start [] ran = tt
numbered_under bound asked past number before start (job ∷ jobs) ran = (ran.0, numbered_under bound asked past number before (start + 1) jobs ran.1)

tasks_under : (bound : ℕ) (asked : Asked) (past : List Said) (number : ℕ) (tasks : List Task) → TellUnder bound past →
    AllByRecursion (RanUnder bound) (judged_from asked past number tasks)
tasks_under bound asked past number [] tell = tt
tasks_under bound asked past number (task ∷ tasks) tell =
    append-all (RanUnder bound) (judged_of asked past number) (judged_from asked past (number + 1) tasks)
    (numbered_under bound asked past number (began_before (jobs_of asked past number)) 0 (shares_of asked past number)
    (shares_ran (IsUnder bound) asked (jobs_of asked past number) (jobs_under bound asked past number tell)))
    (tasks_under bound asked past (number + 1) tasks tell)

pub all_under : (bound : ℕ) (asked : Asked) (past : List Said) → TellUnder bound past → AllByRecursion (RanUnder bound) (all_judged asked past)
all_under bound asked past tell =
    in_order-all (RanUnder bound) (λ (one : Judged). one.job.begin) (judged_from asked past 0 asked.tasks) (tasks_under bound asked past 0 asked.tasks tell)

-- the lines tell of no processor from the number of processors on
pub tell_under : (bound : ℕ) (past : List Said) → processor_count past ≤ bound → TellUnder bound past
tell_under bound [] within = tt
tell_under bound (said ∷ past) within =
    let both : max (next_processor said) (processor_count past) ≤ bound = within in (omega (arith, both), tell_under bound past (omega (arith, both)))

-- the law
pub each_ran_where_told : EachRanWhereTold
each_ran_where_told asked past =
    let bound : ℕ = processor_count past in
    All-from_recursion (RanWhereTold past) (all_judged asked past)
    (all_weaker (RanUnder bound) (RanWhereTold past) (λ one own. All-from_recursion (IsUnder bound) one.job.stretches own) (all_judged asked past)
    (all_under bound asked past (tell_under bound past (omega arith))))
