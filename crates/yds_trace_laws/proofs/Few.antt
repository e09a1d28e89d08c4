-- A line begins at most two jobs of a task: so there are at most twice as many jobs of it as lines.
use Rattle.yds_model.proofs.Common.{ℕ, suc, ◌+◌, ◌*◌, ◌≤◌, ◌&&◌, ◌||◌, ◌==◌, List, [], ◌∷◌, map, length, Bool, true, false, not, nat_lt, if◌then◌else◌, Option, Some, None, is_some, is_none, ◌≡◌, refl, arith, length-map, length-reverse}
use Rattle.yds_kernel.specs.declared.state.State.{State}
use Rattle.yds_kernel.specs.declared.state.State.TheVariants as states
use Rattle.yds_kernel.specs.Event.{Happening, Switch, WakeUp, Speed, Loss, Marker, Other, Event, Said, Stamped, Lost, Nothing}
use Rattle.yds_trace.specs.declared.job.End.{End}
use Rattle.yds_trace.specs.declared.job.End.TheVariants as ends
use Rattle.yds_trace.specs.declared.job.Standing.{Standing}
use Rattle.yds_trace.specs.declared.job.Leaving.{Leaving}
use Rattle.yds_trace.specs.declared.job.Pace.{Pace}
use Rattle.yds_trace.specs.declared.job.Woken.{Woken}
use Rattle.yds_trace.specs.Asked.{Asked, task_at, pace_of, is_of}
use Rattle.yds_trace.specs.Past.{is_first_switch, counts, stayed, up_to_time, up_to, speed_after}
use Rattle.yds_trace.specs.Jobs.{Job, Known, began, began_behind, reopened, woken_after, counted as counted_job, woken_jobs, went_on, unended, back_jobs, come_jobs, running_jobs, found_jobs, changed_last, ended, exits, missing, ran, loses, torn_jobs, torn, torn_if, comes, begun_by, begun_at_most, stretch_of, left_unseen, left_from, left_in, leaves, woken_at, wakes_up, lost_job, leaving_at, missing_of, left_if, after_switch, after_event, all_known, known_after}
use Rattle.yds_trace.specs.Late.{last_asked}
use Rattle.yds_trace.specs.Document.{closed, jobs_of}

-- # Cases

if_few : (b : Bool) (n : ℕ) (jobs others : List Job) → length jobs ≤ n → length others ≤ n → length (if b then jobs else others) ≤ n
if_few true n jobs others few other = few
if_few false n jobs others few other = other

if_known : (b : Bool) (n : ℕ) (known other : Known) → length known.jobs ≤ n → length other.jobs ≤ n → length (if b then known else other).jobs ≤ n
if_known true n known other few others = few
if_known false n known other few others = others

by_end : (end : End) (n : ℕ) (whole : List Job) (over : ℕ → List Job) (lost : ℕ → List Job) →
    length whole ≤ n → ((time : ℕ) → length (over time) ≤ n) → ((time : ℕ) → length (lost time) ≤ n) →
    length {A = Job} (elim end [ ends.Open ↦ whole | ends.Ended time ↦ over time | ends.Lost time ↦ lost time ]) ≤ n
by_end ends.Open n whole over lost a b c = a
by_end (ends.Ended time) n whole over lost a b c = b time
by_end (ends.Lost time) n whole over lost a b c = c time

-- # A job begins, goes on, or ends

changed_few : (change : Job → Job) (n : ℕ) (jobs : List Job) → length jobs ≤ n → length (changed_last change jobs) ≤ n
changed_few change n [] few = few
changed_few change n (job ∷ jobs) few = few

woken_after_few : (pace : Pace) (time n : ℕ) (job : Job) (jobs : List Job) → suc (suc (length jobs)) ≤ n → length (woken_after pace time job jobs) ≤ n
woken_after_few pace time n job jobs few =
    if_few (not (nat_lt time (job.begin + pace.apart))) n (began_behind pace.period time job jobs)
    (if job.begin_known then reopened job ∷ jobs else began time false (job ∷ jobs)) few
    (if_few job.begin_known n (reopened job ∷ jobs) (began time false (job ∷ jobs)) (omega (arith, few)) few)

woken_few : (pace : Pace) (time : ℕ) (again : Bool) (n : ℕ) (jobs : List Job) → suc (length jobs) ≤ n → length (woken_jobs pace time again jobs) ≤ n
woken_few pace time again n [] few = few
woken_few pace time again n (job ∷ jobs) few =
    by_end job.end n (counted_job again job ∷ jobs) (λ end. woken_after pace time job jobs) (λ last. began time true (job ∷ jobs))
    (omega (arith, few)) (λ end. woken_after_few pace time n job jobs few) (λ last. few)

back_few : (pace : Pace) (time end : ℕ) (ever : Bool) (started : Option ℕ) (n : ℕ) (job : Job) (jobs : List Job) → suc (suc (length jobs)) ≤ n →
    length (back_jobs pace time end ever started job jobs) ≤ n
back_few pace time end ever None n job jobs few =
    if_few (ever && is_none job.slept) n (went_on end job ∷ jobs) (began time false (unended end job ∷ jobs)) (omega (arith, few)) few
back_few pace time end ever (Some woken) n job jobs few = woken_after_few pace woken n job jobs few

come_few : (pace : Pace) (time : ℕ) (woken : Woken) (n : ℕ) (jobs : List Job) → suc (length jobs) ≤ n → length (come_jobs pace time woken jobs) ≤ n
come_few pace time woken n [] few = few
come_few pace time woken n (job ∷ jobs) few =
    by_end job.end n (job ∷ jobs) (λ end. if woken.seen then back_jobs pace time end woken.ever woken.started job jobs else began time false (job ∷ jobs))
    (λ last. began time false (job ∷ jobs)) (omega (arith, few))
    (λ end. if_few woken.seen n (back_jobs pace time end woken.ever woken.started job jobs) (began time false (job ∷ jobs))
    (back_few pace time end woken.ever woken.started n job jobs few) few) (λ last. few)

running_few : (pace : Pace) (time n : ℕ) (jobs : List Job) → suc (length jobs) ≤ n → length (running_jobs pace time jobs) ≤ n
running_few pace time n [] few = few
running_few pace time n (job ∷ jobs) few =
    by_end job.end n (job ∷ jobs) (λ end. woken_after pace time job jobs) (λ last. began time false (job ∷ jobs))
    (omega (arith, few)) (λ end. woken_after_few pace time n job jobs few) (λ last. few)

found_few : (time : ℕ) (certain : Bool) (n : ℕ) (jobs : List Job) → suc (length jobs) ≤ n → length (found_jobs time certain jobs) ≤ n
found_few time certain n [] few = few
found_few time certain n (job ∷ jobs) few =
    by_end job.end n (job ∷ jobs) (λ end. began time certain (job ∷ jobs)) (λ last. began time certain (job ∷ jobs))
    (omega (arith, few)) (λ end. few) (λ last. few)

begun_few : (time n : ℕ) (jobs : List Job) → suc (length jobs) ≤ n → length (begun_by time jobs) ≤ n
begun_few time n [] few = few
begun_few time n (job ∷ jobs) few =
    by_end job.end n (begun_at_most time job ∷ jobs) (λ end. began time false (job ∷ jobs)) (λ last. began time false (job ∷ jobs))
    (omega (arith, few)) (λ end. few) (λ last. few)

-- # Losses

lost_few : (time n : ℕ) (jobs : List Job) → length jobs ≤ n → length (map (lost_job time) jobs) ≤ n
lost_few time n jobs few = simp length-map few

torn_jobs_few : (since came n : ℕ) (jobs : List Job) → suc (length jobs) ≤ n → length (torn_jobs since came jobs) ≤ n
torn_jobs_few since came n jobs few =
    let lost : length (map (lost_job since) jobs) ≤ length jobs = lost_few since (length jobs) jobs (omega arith) in
    if_few (nat_lt since came) n (began came false (map (lost_job since) jobs)) jobs (omega (arith, few, lost)) (omega (arith, few))

-- To a thread that leaves or comes, switches that are missing begin no job.
torn_own : (left came : Bool) (processor : ℕ) (since : Option ℕ) (n : ℕ) (known : Known) → (left || came) ≡ true → length known.jobs ≤ n →
    length (torn_if left came processor since known).jobs ≤ n
torn_own left came processor None n known mine few = few
torn_own left came processor (Some since) n known mine few = by known.on
  where
    other : (standing : Standing) (b : Bool) → b ≡ true →
        length (if b || (standing.processor == processor) then loses since known else record known { jobs = torn_jobs since standing.came known.jobs }).jobs ≤ n
    other standing true is = lost_few since n known.jobs few
    other standing false is = cc

    by : (on : Option Standing) → (let after : Known = elim on [
      | None ↦ loses since known
      | Some standing ↦ if left || came || (standing.processor == processor) then loses since known
          else record known { jobs = torn_jobs since standing.came known.jobs }
    ] in length after.jobs ≤ n)
    by None = lost_few since n known.jobs few
    by (Some standing) = other standing (left || came) mine

torn_few : (left came : Bool) (processor : ℕ) (since : Option ℕ) (n : ℕ) (known : Known) → suc (length known.jobs) ≤ n →
    length (torn_if left came processor since known).jobs ≤ n
torn_few left came processor None n known few = omega (arith, few)
torn_few left came processor (Some since) n known few = by known.on
  where
    by : (on : Option Standing) → (let after : Known = elim on [
      | None ↦ loses since known
      | Some standing ↦ if left || came || (standing.processor == processor) then loses since known
          else record known { jobs = torn_jobs since standing.came known.jobs }
    ] in length after.jobs ≤ n)
    by None = lost_few since n known.jobs (omega (arith, few))
    by (Some standing) =
        if_known (left || came || (standing.processor == processor)) n (loses since known) (record known { jobs = torn_jobs since standing.came known.jobs })
        (lost_few since n known.jobs (omega (arith, few))) (torn_jobs_few since standing.came n known.jobs few)

-- # A thread's switches

comes_few : (pace : Pace) (wakes : Bool) (processor time n : ℕ) (known : Known) → suc (length known.jobs) ≤ n → length (comes pace wakes processor time known).jobs ≤ n
comes_few pace wakes processor time n known few =
    if_few wakes n (come_jobs pace time known.woken known.jobs) (running_jobs pace time known.jobs)
    (come_few pace time known.woken n known.jobs few) (running_few pace time n known.jobs few)

left_unseen_few : (pace : Pace) (wakes torn : Bool) (leaving : Leaving) (n : ℕ) (known : Known) → suc (length known.jobs) ≤ n → length (left_unseen pace wakes torn leaving known) ≤ n
left_unseen_few pace wakes torn leaving n known few =
    if_few leaving.renamed n (found_jobs leaving.time true known.jobs)
    (if not torn && is_none leaving.switched && not known.woken.seen
    then changed_last (ran (stretch_of leaving leaving.lines_since)) (begun_by leaving.lines_since known.jobs)
    else changed_last missing (if wakes then come_jobs pace leaving.time known.woken known.jobs else found_jobs leaving.time false known.jobs))
    (found_few leaving.time true n known.jobs few)
    (if_few (not torn && is_none leaving.switched && not known.woken.seen) n
    (changed_last (ran (stretch_of leaving leaving.lines_since)) (begun_by leaving.lines_since known.jobs))
    (changed_last missing (if wakes then come_jobs pace leaving.time known.woken known.jobs else found_jobs leaving.time false known.jobs))
    (changed_few (ran (stretch_of leaving leaving.lines_since)) n (begun_by leaving.lines_since known.jobs) (begun_few leaving.lines_since n known.jobs few))
    (changed_few missing n (if wakes then come_jobs pace leaving.time known.woken known.jobs else found_jobs leaving.time false known.jobs)
    (if_few wakes n (come_jobs pace leaving.time known.woken known.jobs) (found_jobs leaving.time false known.jobs)
    (come_few pace leaving.time known.woken n known.jobs few) (found_few leaving.time false n known.jobs few))))

left_from_few : (pace : Pace) (wakes torn : Bool) (leaving : Leaving) (n : ℕ) (known : Known) → suc (length known.jobs) ≤ n → length (left_from pace wakes torn leaving known) ≤ n
left_from_few pace wakes torn leaving n known few = by known.on
  where
    by : (on : Option Standing) → length {A = Job} (elim on [
      | None ↦ left_unseen pace wakes torn leaving known
      | Some standing ↦ changed_last (ran (stretch_of leaving standing.since)) known.jobs
    ]) ≤ n
    by None = left_unseen_few pace wakes torn leaving n known few
    by (Some standing) = changed_few (ran (stretch_of leaving standing.since)) n known.jobs (omega (arith, few))

left_in_few : (state : State) (time n : ℕ) (jobs : List Job) → length jobs ≤ n → length (left_in state time jobs) ≤ n
left_in_few states.GoesOn time n jobs few = few
left_in_few states.Sleeps time n jobs few = changed_few (ended time) n jobs few
left_in_few states.Exits time n jobs few = changed_few (exits time) n jobs few
left_in_few states.Unknown time n jobs few = changed_few (lost_job time) n jobs few

speeds_on : (processor time : ℕ) (khz : Option ℕ) (on : Option Standing) (n : ℕ) (known : Known) → length known.jobs ≤ n →
    (let after : Known = elim on [
      | None ↦ known
      | Some standing ↦ if standing.processor == processor then record {
        jobs = changed_last (ran (record { processor = processor; from = standing.since; to = time; khz = khz })) known.jobs;
        on = Some (record standing { since = time });
        woken = known.woken;
      } else known
    ] in length after.jobs ≤ n)
speeds_on processor time khz None n known few = few
speeds_on processor time khz (Some standing) n known few =
    if_known (standing.processor == processor) n (record {
      jobs = changed_last (ran (record { processor = processor; from = standing.since; to = time; khz = khz })) known.jobs;
      on = Some (record standing { since = time });
      woken = known.woken;
    }) known (changed_few (ran (record { processor = processor; from = standing.since; to = time; khz = khz })) n known.jobs few) few

left_if_few : (pace : Pace) (wakes torn mine : Bool) (state : State) (leaving : Leaving) (n : ℕ) (known : Known) → suc (length known.jobs) ≤ n →
    length (left_if pace wakes torn mine state leaving known).jobs ≤ n
left_if_few pace wakes torn mine state leaving n known few =
    if_known mine n (leaves pace wakes torn state leaving known) known
    (left_in_few state leaving.time n (left_from pace wakes torn leaving known) (left_from_few pace wakes torn leaving n known few)) (omega (arith, few))

-- Where its thread comes, leaves or stays. Who leaves may begin a job, and who comes another one.
switch_few : (pace : Pace) (wakes left came : Bool) (state : State) (leaving : Leaving) (since : Option ℕ) (n : ℕ) (known : Known) → suc (suc (length known.jobs)) ≤ n →
    length (after_switch pace wakes left came state leaving since known).jobs ≤ n
switch_few pace wakes left true state leaving since n known few =
    let before : Known = torn_if left true leaving.processor since known in
    let own : length before.jobs ≤ length known.jobs = torn_own left true leaving.processor since (length known.jobs) known (either left) (omega arith) in
    let gone : length (left_if pace wakes (is_some since) left state leaving before).jobs ≤ suc (length known.jobs) =
    left_if_few pace wakes (is_some since) left state leaving (suc (length known.jobs)) before (omega (arith, own)) in
    comes_few pace wakes leaving.processor leaving.time n (left_if pace wakes (is_some since) left state leaving before) (omega (arith, few, gone))
  where
    either : (b : Bool) → (b || true) ≡ true
    either true = refl
    either false = refl
switch_few pace wakes true false state leaving since n known few =
    let before : Known = torn_if true false leaving.processor since known in
    let own : length before.jobs ≤ length known.jobs = torn_own true false leaving.processor since (length known.jobs) known refl (omega arith) in
    left_if_few pace wakes (is_some since) true state leaving n before (omega (arith, few, own))
switch_few pace wakes false false state leaving since n known few = torn_few false false leaving.processor since n known (omega (arith, few))

event_few : (asked : Asked) (number : ℕ) (past : List Said) (event : Event) (happening : Happening) (n : ℕ) (known : ℕ → Known) → suc (suc (length (known number).jobs)) ≤ n →
    length (after_event asked number past event happening known).jobs ≤ n
event_few asked number past event (Switch previous state next) n known few =
    switch_few (pace_of (task_at asked number)) (not asked.begin_at_run) (is_of asked number previous) (is_of asked number next) state (leaving_at asked past event previous)
    (missing_of asked previous next (leaving_at asked past event previous) known 0 asked.tasks) n (known number) few
event_few asked number past event (WakeUp thread starts) n known few =
    if_known (is_of asked number thread && not asked.begin_at_run) n (wakes_up (pace_of (task_at asked number)) starts event.time (known number)) (known number)
    (woken_few (pace_of (task_at asked number)) (woken_at starts event.time (known number).woken.started) (known number).woken.came n (known number).jobs (omega (arith, few)))
    (omega (arith, few))
event_few asked number past event (Speed processor khz) n known few =
    speeds_on processor event.time (speed_after asked.start processor past) (known number).on n (known number) (omega (arith, few))
event_few asked number past event Loss n known few = lost_few _ n (known number).jobs (omega (arith, few))
event_few asked number past event Marker n known few = omega (arith, few)
event_few asked number past event Other n known few = omega (arith, few)

-- # The lines of a trace

known_few : (asked : Asked) (number : ℕ) (past : List Said) → length (known_after asked number past).jobs ≤ 2 * length past
known_few asked number [] = omega arith
known_few asked number (Stamped event ∷ past) =
    event_few asked number past event event.happening (2 * suc (length past)) (all_known asked past) (omega (arith, known_few asked number past))
known_few asked number (Lost processor reach ∷ past) =
    lost_few _ (2 * suc (length past)) (known_after asked number past).jobs (omega (arith, known_few asked number past))
known_few asked number (Nothing ∷ past) = omega (arith, known_few asked number past)

if_lines : (b : Bool) (n : ℕ) (past other : List Said) → length past ≤ n → length other ≤ n → length (if b then past else other) ≤ n
if_lines true n past other few others = few
if_lines false n past other few others = others

-- no line counts twice
up_to_time_few : (to : ℕ) (past : List Said) → length (up_to_time to past) ≤ length past
up_to_time_few to [] = omega arith
up_to_time_few to (Stamped event ∷ past) =
    let rest : length (up_to_time to past) ≤ length past = up_to_time_few to past in
    if_lines (counts to event past) (suc (length past)) (Stamped event ∷ up_to_time to past)
    (if is_first_switch event (up_to_time to past) then stayed to event.processor event.happening ∷ up_to_time to past else up_to_time to past)
    (omega (arith, rest))
    (if_lines (is_first_switch event (up_to_time to past)) (suc (length past)) (stayed to event.processor event.happening ∷ up_to_time to past) (up_to_time to past)
    (omega (arith, rest)) (omega (arith, rest)))
up_to_time_few to (Lost processor reach ∷ past) =
    let rest : length (up_to_time to past) ≤ length past = up_to_time_few to past in
    if_lines _ (suc (length past)) (Lost processor reach ∷ up_to_time to past) (up_to_time to past) (omega (arith, rest)) (omega (arith, rest))
up_to_time_few to (Nothing ∷ past) = omega (arith, up_to_time_few to past)

up_to_few : (to : Option ℕ) (past : List Said) → length (up_to to past) ≤ length past
up_to_few None past = omega arith
up_to_few (Some to) past = up_to_time_few to past

closed_on : (last : ℕ) (speed : ℕ → Option ℕ) (on : Option Standing) (n : ℕ) (jobs : List Job) → length jobs ≤ n →
    length {A = Job} (elim on [
      | None ↦ jobs
      | Some standing ↦ changed_last (ran (record { processor = standing.processor; from = standing.since; to = last; khz = speed standing.processor })) jobs
    ]) ≤ n
closed_on last speed None n jobs few = few
closed_on last speed (Some standing) n jobs few =
    changed_few (ran (record { processor = standing.processor; from = standing.since; to = last; khz = speed standing.processor })) n jobs few

pub jobs_few : (asked : Asked) (past : List Said) (number : ℕ) → length (jobs_of asked past number) ≤ 2 * length past
jobs_few asked past number =
    let known : Known = known_after asked number (up_to asked.to past) in
    let few : length known.jobs ≤ 2 * length past = omega (arith, known_few asked number (up_to asked.to past), up_to_few asked.to past) in
    let shut : length (closed asked past known) ≤ 2 * length past =
    closed_on (last_asked asked past) (λ processor. speed_after asked.start processor (up_to asked.to past)) known.on (2 * length past) known.jobs few in
    simp length-reverse shut
