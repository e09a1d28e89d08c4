-- The slots of a plan, rounded to a table's points, are a feasible schedule on them: stretch by stretch.
use Rattle.yds_model.proofs.Common.{◌≡◌, ◌⊎◌, ℕ, ◌+◌, ◌-◌, ◌*◌, ◌<◌, ◌≤◌, ◌==◌, List, [], ◌∷◌, ◌++◌, length, get_or, refl, sym, ap, subst, ◌∙◌, arith, inl, inr, eqb-true, ◌↔◌, All, AllByRecursion, Any, Contains, cases_Bool, map-append, All-nil, All-head, All-tail, All-append, All-map, All-weaker, All-from_get_or, All-from_recursion, recursion_from_All, one-dvd, mul-sub, mul-le-mul_right, le_of_mul-le-mul_right, lt_of_mul-lt-mul_right, Job, job_at, of_whole, WrittenSlot, WholeSlot, IsDivided, IsScale, slot_at_scale, slots_at, work_given, RunFrom, IsInWindow, IsFeasibleAt, Piece, PiecesFrom, Level, IsPlan, Point, stretches, LiesIn, LiesWritten, HasPointSpeed, AreNeighbours, jobs_in_turn, IsSplitAt, RoundsStretch, RoundsStretches}
use Rattle.fraction_lemmas.proofs.Fractions.{at_most_of_values}
use Rattle.model_lemmas.proofs.Runs.{run_forward, run_earlier, run_later, run_joined}
use Rattle.yds_events.specs.Stretch.{no_stretch, IsOutside}
use Rattle.yds_events.proofs.Neighbours.{stretches_run, release_outside, deadline_outside}
use Rattle.yds_laws.proofs.Bound.{scale_left, scale_right}
use Rattle.yds_energy.proofs.RoundedRuns.{runs_order, runs_within, runs_on_order}
use Rattle.yds_energy.proofs.PlanParts.{given_joined, scale_joined, IsPartOfPlan, plan_part, part_front, part_back}

-- # Jobs in turn

-- what holds of each of the jobs in turn holds of each slot's job, and the other way round
turn_both : (P : ℕ → Type 0) (slots : List WholeSlot) → AllByRecursion P (jobs_in_turn slots) ↔ AllByRecursion (λ slot. P slot.job) slots
turn_both P [] = (λ each. tt, λ each. tt)
turn_both P (slot ∷ []) = (λ each. each, λ each. each)
turn_both P (slot ∷ next ∷ slots) =
    let rest = turn_both P (next ∷ slots) in
    elim (cases_Bool (slot.job == next.job)) [
      | inl same ↦ rw same (λ each. let all = rest.0 each in (subst P (sym (eqb-true slot.job next.job same)) all.0, all), λ each. rest.1 each.1)
      | inr other ↦ rw other (λ each. (each.0, rest.0 each.1), λ each. (each.0, rest.1 each.1))
    ]

-- so slots with the same jobs in turn are of the same jobs
pub same_jobs : (P : ℕ → Type 0) (slots others : List WholeSlot) → jobs_in_turn others ≡ jobs_in_turn slots → All (λ slot. P slot.job) slots → All (λ slot. P slot.job) others
same_jobs P slots others same each =
    All-from_recursion (λ slot. P slot.job) others
    ((turn_both P others).0 (rw same ((turn_both P slots).1 (recursion_from_All (λ slot. P slot.job) slots each))))

-- # A stretch

-- no release and no deadline lies inside the stretch
pub record IsBetweenEvents (jobs : List Job) (stretch : Piece) : Type 0 where
  pub release : (number : ℕ) → number < length jobs → IsOutside stretch (job_at jobs number).release
  pub deadline : (number : ℕ) → number < length jobs → IsOutside stretch (job_at jobs number).deadline

-- so it is for each stretch of the jobs
pub stretches_between : (jobs : List Job) → All (IsBetweenEvents jobs) (stretches jobs)
stretches_between jobs = All-from_get_or (IsBetweenEvents jobs) (stretches jobs) no_stretch (λ k within. record {
  release = λ number known. release_outside jobs number k known within;
  deadline = λ number known. deadline_outside jobs number k known within;
})

-- the job may run in all of the stretch
pub record IsOpen (jobs : List Job) (stretch : Piece) (number : ℕ) : Type 0 where
  pub known : number < length jobs
  pub released : (job_at jobs number).release ≤ stretch.from
  pub due : stretch.to ≤ (job_at jobs number).deadline

-- a slot that takes time in the stretch and lies in its job's window is of a job that may run in all of it
pub slot_open : (jobs : List Job) (stretch : Piece) (scale : ℕ) (slot : WholeSlot) → IsBetweenEvents jobs stretch → IsInWindow jobs scale slot →
    slot.from < slot.to → LiesIn scale slot stretch → IsOpen jobs stretch slot.job
slot_open jobs stretch scale slot between window takes lies = grind (arith, mul-le-mul_right)

-- and a slot of such a job in the stretch lies in the job's window
open_slot : (jobs : List Job) (stretch : Piece) (scale : ℕ) (slot : WholeSlot) → IsOpen jobs stretch slot.job → LiesIn scale slot stretch → IsInWindow jobs scale slot
open_slot jobs stretch scale slot is lies = grind arith

-- a written slot that lies in the stretch does so at a scale
lies_at_scale : (scale : ℕ) (slot : WrittenSlot) (stretch : Piece) → 1 ≤ scale → IsDivided scale slot → LiesWritten slot stretch →
    LiesIn scale (slot_at_scale scale slot) stretch
lies_at_scale scale slot stretch positive divided lies = record {
  from = omega (arith, (at_most_of_values (of_whole stretch.from) slot.from scale positive (one-dvd scale) divided.from).0 (omega (arith, lies.from)));
  to = omega (arith, (at_most_of_values slot.to (of_whole stretch.to) scale positive divided.to (one-dvd scale)).0 (omega (arith, lies.to)));
}

-- and so do all
pub all_lie : (scale : ℕ) (slots : List WrittenSlot) (stretch : Piece) → IsScale scale slots → All (λ slot. LiesWritten slot stretch) slots →
    All (λ slot. LiesIn scale slot stretch) (slots_at scale slots)
all_lie scale slots stretch is lies =
    All-map (λ slot. LiesIn scale slot stretch) (slot_at_scale scale) slots
    (λ k d within. lies_at_scale scale (get_or slots k d) stretch is.positive (is.divided k d within) (lies k d within))

-- # What is written for a stretch

-- What is written for the stretch runs in it, lies in the jobs' windows and gives each job what the plan does.
pub record RunsInStretch (jobs : List Job) (scale : ℕ) (stretch : Piece) (planned written : List WholeSlot) : Type 0 where
  pub order : RunFrom (stretch.from * scale) written
  pub ends : All (λ slot. slot.to ≤ stretch.to * scale) written
  pub windows : All (IsInWindow jobs scale) written
  pub same_work : (job : ℕ) → work_given written job ≡ work_given planned job

-- the slots of a plan that lie in it do so
stretch_kept : (jobs : List Job) (levels : List Level) (scale : ℕ) (stretch : Piece) (slots : List WholeSlot) → IsPartOfPlan jobs levels slots scale →
    All (λ slot. LiesIn scale slot stretch) slots → RunsInStretch jobs scale stretch slots slots
stretch_kept jobs levels scale stretch slots part lies = grind (arith, run_later)

-- the time at the faster point is at most the stretch
switch_within : (time long work low high all : ℕ) → low * long < work → work < high * long → time * (long * (high - low)) ≡ (work - low * long) * all → time ≤ all
switch_within time long work low high all above below is = grind (arith, le_of_mul-le-mul_right, lt_of_mul-lt-mul_right, mul-le-mul_right, mul-sub)

-- so the switch comes within the stretch
pub time_within : (scale : ℕ) (level : Level) (low high : Point) (stretch : Piece) (planned fast slow : List WholeSlot) → low.speed * level.length < level.work →
    level.work < high.speed * level.length → (is : IsSplitAt scale level low high stretch planned fast slow) → is.time ≤ (stretch.to - stretch.from) * scale
time_within scale level low high stretch planned fast slow above below is =
    switch_within is.time level.length level.work low.speed high.speed ((stretch.to - stretch.from) * scale) above below is.is_time

-- the two parts of a split
stretch_split : (jobs : List Job) (levels : List Level) (scale : ℕ) (level : Level) (low high : Point) (stretch : Piece) (planned fast slow : List WholeSlot) →
    IsBetweenEvents jobs stretch → stretch.from < stretch.to → low.speed * level.length < level.work → level.work < high.speed * level.length →
    IsPartOfPlan jobs levels planned scale → All (λ slot. LiesIn scale slot stretch) planned →
    IsSplitAt scale level low high stretch planned fast slow → RunsInStretch jobs scale stretch planned (fast ++ slow)
stretch_split jobs levels scale level low high stretch planned fast slow between forward above below part lies is =
    let start : ℕ = stretch.from * scale in
    let switch : ℕ = start + is.time in
    let end : ℕ = stretch.to * scale in
    let ends : switch ≤ end =
    omega (arith, time_within scale level low high stretch planned fast slow above below is, mul-sub scale stretch.to stretch.from, mul-le-mul_right scale forward) in
    let first = runs_within high.speed start switch fast is.first in
    let second = runs_on_order low.speed switch end slow is.then_slow in
    let within : All (λ slot. LiesIn scale slot stretch) (fast ++ slow) = All-append (λ slot. LiesIn scale slot stretch) fast slow
    (All-weaker (λ slot. (start ≤ slot.from) × (slot.to ≤ switch)) (λ slot. LiesIn scale slot stretch) (λ slot at. record { from = at.0; to = omega (arith, at.1, ends) }) fast first)
    (All-weaker (λ slot. (switch ≤ slot.from) × (slot.to ≤ end)) (λ slot. LiesIn scale slot stretch) (λ slot at. record { from = omega (arith, at.0); to = at.1 }) slow second.1) in
    let open_jobs : All (λ slot. IsOpen jobs stretch slot.job) (fast ++ slow) = same_jobs (IsOpen jobs stretch) planned (fast ++ slow) is.same_order
    (λ k d inside. slot_open jobs stretch scale (get_or planned k d) between (part.windows k d inside) (run_forward 0 planned part.order k d inside) (lies k d inside)) in
    record {
      order = run_joined start switch fast slow (omega arith) (runs_order high.speed start switch fast is.first) (λ k d inside. (first k d inside).1) second.0;
      ends = λ k d inside. (within k d inside).to;
      windows = λ k d inside. open_slot jobs stretch scale (get_or (fast ++ slow) k d) (open_jobs k d inside) (within k d inside);
      same_work = is.same_work;
    }

-- # A stretch at a scale

-- the parts of a split, at a scale
pub record SplitsAt (hull : List Point) (scale : ℕ) (level : Level) (stretch : Piece) (planned written : List WholeSlot) : Type 0 where
  pub low : Point
  pub high : Point
  pub around : AreNeighbours hull level low high
  pub fast : List WholeSlot
  pub slow : List WholeSlot
  pub parts : written ≡ fast ++ slow
  pub split : IsSplitAt scale level low high stretch planned fast slow

-- what is written for a stretch, at a scale
abbrev pub RoundsAt : List Point → List Level → ℕ → Piece → List WholeSlot → List WholeSlot → Type 0
RoundsAt hull levels scale stretch planned written =
    ((planned ≡ []) × (written ≡ []))
    ⊎ ((level : Level) × Contains levels level × All (λ slot. Contains level.members slot.job) planned
    × ((Any (HasPointSpeed level) hull × (written ≡ planned)) ⊎ SplitsAt hull scale level stretch planned written))

-- the slots' jobs are members at a scale too
members_at_scale : (scale : ℕ) (level : Level) (slots : List WrittenSlot) → All (λ slot. Contains level.members slot.job) slots →
    All (λ slot. Contains level.members slot.job) (slots_at scale slots)
members_at_scale scale level slots members = All-map (λ slot. Contains level.members slot.job) (slot_at_scale scale) slots (λ k d within. members k d within)

-- the written slots of a stretch at a scale of theirs
pub rounds_at : (hull : List Point) (levels : List Level) (scale : ℕ) (stretch : Piece) (planned written : List WrittenSlot) → IsScale scale planned →
    IsScale scale written → RoundsStretch hull levels stretch planned written → RoundsAt hull levels scale stretch (slots_at scale planned) (slots_at scale written)
rounds_at hull levels scale stretch planned written is is_written (inl (none, empty)) = inl (ap (slots_at scale) none, ap (slots_at scale) empty)
rounds_at hull levels scale stretch planned written is is_written (inr (level, has, members, inl kept)) =
    inr (level, has, members_at_scale scale level planned members, inl (kept.at_point, ap (slots_at scale) kept.kept))
rounds_at hull levels scale stretch planned written is is_written (inr (level, has, members, inr split)) =
    let both : IsScale scale (split.fast ++ split.slow) = subst (IsScale scale) split.parts is_written in
    inr (
      level,
      has,
      members_at_scale scale level planned members,
      inr (record {
        low = split.low;
        high = split.high;
        around = split.around;
        fast = slots_at scale split.fast;
        slow = slots_at scale split.slow;
        parts = ap (slots_at scale) split.parts ∙ map-append (slot_at_scale scale) split.fast split.slow;
        split = split.split.holds scale (scale_joined scale (planned ++ split.fast) split.slow
            (scale_joined scale planned split.fast is (scale_left scale split.fast split.slow both)) (scale_right scale split.fast split.slow both));
      }),
    )

-- so it runs in the stretch
stretch_runs : (jobs : List Job) (hull : List Point) (levels : List Level) (scale : ℕ) (stretch : Piece) (planned written : List WholeSlot) →
    IsBetweenEvents jobs stretch → stretch.from < stretch.to → IsPartOfPlan jobs levels planned scale → All (λ slot. LiesIn scale slot stretch) planned →
    RoundsAt hull levels scale stretch planned written → RunsInStretch jobs scale stretch planned written
stretch_runs jobs hull levels scale stretch planned written between forward part lies (inl (none, empty)) =
    let same : written ≡ planned = empty ∙ sym none in
    subst (RunsInStretch jobs scale stretch planned) (sym same) (stretch_kept jobs levels scale stretch planned part lies)
stretch_runs jobs hull levels scale stretch planned written between forward part lies (inr (level, has, members, inl kept)) =
    subst (RunsInStretch jobs scale stretch planned) (sym kept.1) (stretch_kept jobs levels scale stretch planned part lies)
stretch_runs jobs hull levels scale stretch planned written between forward part lies (inr (level, has, members, inr split)) =
    subst (RunsInStretch jobs scale stretch planned) (sym split.parts)
    (stretch_split jobs levels scale level split.low split.high stretch planned split.fast split.slow between forward split.around.above_low split.around.below_high
    part lies split.split)

-- # All stretches

-- what is written from a time on runs from there, lies in the jobs' windows and gives each job what the plan does
record RunsFromTime (jobs : List Job) (scale start : ℕ) (planned written : List WholeSlot) : Type 0 where
  order : RunFrom (start * scale) written
  windows : All (IsInWindow jobs scale) written
  same_work : (job : ℕ) → work_given written job ≡ work_given planned job

-- slots of two parts at a scale
pub parts_at : (scale : ℕ) (slots one other : List WrittenSlot) → slots ≡ one ++ other → slots_at scale slots ≡ slots_at scale one ++ slots_at scale other
parts_at scale slots one other is = ap (slots_at scale) is ∙ map-append (slot_at_scale scale) one other

-- What holds of nothing, and of a stretch and all that comes after it where it holds of the latter, holds of all that a plan has and of what
-- is written for it.
rounds_from : (jobs : List Job) (hull : List Point) (levels : List Level) (scale : ℕ) (R : ℕ → List WholeSlot → List WholeSlot → Type 0) →
    ((start : ℕ) → R start [] []) →
    ((start : ℕ) (stretch : Piece) (planned others written made : List WholeSlot) → IsBetweenEvents jobs stretch → start ≤ stretch.from → stretch.from < stretch.to →
    IsPartOfPlan jobs levels planned scale → All (λ slot. LiesIn scale slot stretch) planned → RoundsAt hull levels scale stretch planned written →
    R stretch.to others made → R start (planned ++ others) (written ++ made)) →
    (start : ℕ) (pieces : List Piece) (planned written : List WrittenSlot) → PiecesFrom start pieces → All (IsBetweenEvents jobs) pieces →
    IsPartOfPlan jobs levels (slots_at scale planned) scale → IsScale scale planned → IsScale scale written → RoundsStretches hull levels pieces planned written →
    R start (slots_at scale planned) (slots_at scale written)
rounds_from jobs hull levels scale R none each start [] planned written order between part is is_written (empty, nothing) = rw (empty, nothing) (none start)
rounds_from jobs hull levels scale R none each start (stretch ∷ pieces) planned written order between part is is_written (here, later, made, made_later, parts, made_parts, lies, rounds, rest) =
    let all : IsPartOfPlan jobs levels (slots_at scale (here ++ later)) scale = rw parts at part in
    let whole : IsScale scale (here ++ later) = rw parts at is in
    let whole_made : IsScale scale (made ++ made_later) = rw made_parts at is_written in
    let is_here = scale_left scale here later whole in
    rw (parts_at scale planned here later parts, parts_at scale written made made_later made_parts)
    (each start stretch (slots_at scale here) (slots_at scale later) (slots_at scale made) (slots_at scale made_later) (All-head (IsBetweenEvents jobs) stretch pieces between)
    order.0 order.1 (part_front jobs levels here later scale all) (all_lie scale here stretch is_here lies)
    (rounds_at hull levels scale stretch here made is_here (scale_left scale made made_later whole_made) rounds)
    (rounds_from jobs hull levels scale R none each stretch.to pieces later made_later order.2 (All-tail (IsBetweenEvents jobs) stretch pieces between)
    (part_back jobs levels here later scale all) (scale_right scale here later whole) (scale_right scale made made_later whole_made) rest))

-- So does what holds of each stretch, and of two parts together where it holds of each, for a plan.
pub rounds_fold : (jobs : List Job) (hull : List Point) (levels : List Level) (scale : ℕ) (R : List WholeSlot → List WholeSlot → Type 0) → R [] [] →
    ((stretch : Piece) (planned written : List WholeSlot) → stretch.from < stretch.to → IsPartOfPlan jobs levels planned scale →
    RoundsAt hull levels scale stretch planned written → R planned written) →
    ((planned others written made : List WholeSlot) → R planned written → R others made → R (planned ++ others) (written ++ made)) →
    (planned written : List WrittenSlot) → IsPlan jobs planned levels → IsScale scale planned → IsScale scale written →
    RoundsStretches hull levels (stretches jobs) planned written → R (slots_at scale planned) (slots_at scale written)
rounds_fold jobs hull levels scale R none each both planned written plan is is_written rounds =
    rounds_from jobs hull levels scale (λ start. R) (λ start. none)
    (λ start stretch here others mine made between after forward part lies at rest. both here others mine made (each stretch here mine forward part at) rest)
    0 (stretches jobs) planned written (stretches_run jobs) (stretches_between jobs) (plan_part jobs planned levels scale plan is) is is_written rounds

-- stretch by stretch
stretch_after : (jobs : List Job) (hull : List Point) (levels : List Level) (scale start : ℕ) (stretch : Piece) (planned others written made : List WholeSlot) →
    IsBetweenEvents jobs stretch → start ≤ stretch.from → stretch.from < stretch.to → IsPartOfPlan jobs levels planned scale →
    All (λ slot. LiesIn scale slot stretch) planned → RoundsAt hull levels scale stretch planned written → RunsFromTime jobs scale stretch.to others made →
    RunsFromTime jobs scale start (planned ++ others) (written ++ made)
stretch_after jobs hull levels scale start stretch planned others written made between after forward part lies rounds rest =
    let first = stretch_runs jobs hull levels scale stretch planned written between forward part lies rounds in
    record {
      order = run_joined (start * scale) (stretch.to * scale) written made (omega (arith, mul-le-mul_right scale after, mul-le-mul_right scale forward))
          (run_earlier (start * scale) (stretch.from * scale) written (mul-le-mul_right scale after) first.order) first.ends rest.order;
      windows = All-append (IsInWindow jobs scale) written made first.windows rest.windows;
      same_work = λ job. omega (arith, given_joined written made job, given_joined planned others job, first.same_work job, rest.same_work job);
    }

-- so at a scale of both the written slots are feasible
pub written_feasible : (jobs : List Job) (hull : List Point) (levels : List Level) (planned written : List WrittenSlot) (scale : ℕ) → IsPlan jobs planned levels →
    RoundsStretches hull levels (stretches jobs) planned written → IsScale scale (planned ++ written) → IsFeasibleAt jobs scale (slots_at scale written)
written_feasible jobs hull levels planned written scale plan rounds is =
    let left = scale_left scale planned written is in
    let runs = rounds_from jobs hull levels scale (RunsFromTime jobs scale)
    (λ start. record { order = tt; windows = All-nil (IsInWindow jobs scale); same_work = λ job. refl }) (stretch_after jobs hull levels scale) 0 (stretches jobs) planned written
    (stretches_run jobs) (stretches_between jobs) (plan_part jobs planned levels scale plan left) left (scale_right scale planned written is) rounds in
    record {
      one_at_a_time = run_earlier 0 (0 * scale) (slots_at scale written) (omega arith) runs.order;
      in_windows = runs.windows;
      served = λ number known. runs.same_work number ∙ (plan.proper.feasible.holds scale left).served number known;
    }
