-- Two runs of a policy for the same jobs on the same grid are one: what a stretch serves is a function of what is pending at its start.
use Rattle.yds_model.proofs.Common.{◌≡◌, ℕ, ◌-◌, ◌*◌, ◌≤◌, List, [], get_or, filter, map, fold, min, max, sum_by, ◌&&◌, nat_le, nat_lt, refl, sym, ap, ◌∙◌, arith, All, All-nil, get_or_default, Contains, mul-pos, count_by, numbers_of, Job, job_at, WholeSlot, slots_at, Piece, stretches, stretch_at, div_up, IsRunAt, average_rate, terms_of, optimal_available, optimal_available_rounds, work_given}
use Rattle.fraction_lemmas.proofs.Fractions.{factors}
use Rattle.yds_events.specs.Stretch.{no_stretch}
use Rattle.model_lemmas.proofs.Runs.{run_forward}
use Rattle.yds_laws.proofs.Bound.{scale_left, scale_right}
use Rattle.yds_laws.proofs.ExactRates.{stretch_of_slot}
use Rattle.yds_plan_laws.specs.RunsOnce.{RunsAreOne}
use Rattle.yds_plan_laws.proofs.OneSchedule.{IsRest, rests_are_one}
use Rattle.yds_plan_laws.proofs.RunsAlong.{ended_by, serves_speed, serves_some, goes_along}

-- # Whatever the policy

module _ (jobs : List Job) (grid scale : ℕ) (positive : 1 ≤ scale) (capacity : List WholeSlot → Piece → ℕ)
    (local : (all same : List WholeSlot) (stretch : Piece) → ended_by (stretch.from * scale) all ≡ ended_by (stretch.from * scale) same → capacity all stretch ≡ capacity same stretch) where
  -- each slot of a run does some work
  slots_work : (all : List WholeSlot) → IsRunAt jobs grid scale (capacity all) all → All (λ slot. 1 ≤ slot.work) all
  slots_work all run k d within =
      let slot = get_or all k d in
      let place = stretch_of_slot jobs scale slot (run.served.uncut k d within) in
      let has : Contains all slot = (k, within, get_or_default all k slot d within) in
      let stretch = stretch_at jobs place.0 in
      let serves = run.each place.0 no_stretch place.1 in
      (factors slot.work (grid * (stretch.to - stretch.from) * scale) (capacity all stretch * (slot.to - slot.from))
      (serves_speed grid scale stretch all (capacity all stretch) slot serves has place.2)
      (mul-pos (serves_some grid scale stretch all (capacity all stretch) slot serves has place.2) (omega (arith, run_forward 0 all run.feasible.one_at_a_time k d within)))).0

  -- all of them are left at first
  all_left : (all : List WholeSlot) → IsRunAt jobs grid scale (capacity all) all → IsRest jobs scale [] 0 all
  all_left all run = record {
    ended = All-nil (λ slot. slot.to ≤ 0);
    run = run.feasible.one_at_a_time;
    windows = run.feasible.in_windows;
    due = run.served.earliest_first;
    uncut = run.served.uncut;
    once = run.served.once;
    works = slots_work all run;
    served = run.feasible.served;
  }

  -- so two runs are one
  pub runs_same : (all same : List WholeSlot) → IsRunAt jobs grid scale (capacity all) all → IsRunAt jobs grid scale (capacity same) same → all ≡ same
  runs_same all same run other =
      rests_are_one jobs scale positive all same [] 0 all same (goes_along jobs grid scale capacity local all same run.each other.each)
      (goes_along jobs grid scale capacity local same all other.each run.each) refl refl (all_left all run) (all_left same other)

-- # What is set is a function of what is pending

-- a job's pending work, by the slots that have ended
abbrev pub pending_of : List Job → ℕ → List WholeSlot → ℕ → ℕ
pending_of jobs scale ended job = (job_at jobs job).work * scale - work_given ended job

-- what Average Rate sets,
abbrev average_of : List Job → ℕ → ℕ → Piece → List WholeSlot → ℕ
average_of jobs grid scale stretch ended =
    min (grid * sum_by (pending_of jobs scale ended) (filter (λ job. nat_le (job_at jobs job).release stretch.from) (numbers_of jobs))) (scale * terms_of jobs grid stretch)

-- so it sets the same where the same has ended,
average_local : (jobs : List Job) (grid scale : ℕ) (all same : List WholeSlot) (stretch : Piece) → ended_by (stretch.from * scale) all ≡ ended_by (stretch.from * scale) same →
    average_rate jobs grid scale all stretch ≡ average_rate jobs grid scale same stretch
average_local jobs grid scale all same stretch equal = ap (average_of jobs grid scale stretch) equal

-- and Optimal Available
abbrev waiting_of : List Job → ℕ → Piece → List WholeSlot → List ℕ
waiting_of jobs scale stretch ended =
    filter (λ job. nat_le (job_at jobs job).release stretch.from && nat_lt 0 (pending_of jobs scale ended job)) (numbers_of jobs)

-- what a deadline asks of the stretch
abbrev asked_of : List Job → ℕ → ℕ → Piece → List WholeSlot → ℕ → ℕ
asked_of jobs grid scale stretch ended deadline =
    div_up (grid * sum_by (pending_of jobs scale ended) (filter (λ job. nat_le (job_at jobs job).deadline deadline) (waiting_of jobs scale stretch ended)) * (stretch.to - stretch.from))
    (scale * (deadline - stretch.from))

-- the greatest of it
abbrev optimal_of : List Job → ℕ → ℕ → Piece → List WholeSlot → ℕ
optimal_of jobs grid scale stretch ended =
    scale * fold max 0 (map (asked_of jobs grid scale stretch ended) (map (λ job. (job_at jobs job).deadline) (waiting_of jobs scale stretch ended)))

-- so it does too
optimal_local : (jobs : List Job) (grid scale : ℕ) (all same : List WholeSlot) (stretch : Piece) → ended_by (stretch.from * scale) all ≡ ended_by (stretch.from * scale) same →
    optimal_available jobs grid scale all stretch ≡ optimal_available jobs grid scale same stretch
optimal_local jobs grid scale all same stretch equal = ap (optimal_of jobs grid scale stretch) equal

-- # The law

-- the law, at a scale of both
pub runs_are_one : RunsAreOne
runs_are_one = record {
  average_rate = λ jobs grid rounded others_rounded scale slots others run other is.
      let left = scale_left scale slots others is in
      let right = scale_right scale slots others is in (
        run.rounds ∙ sym other.rounds,
        runs_same jobs grid scale is.positive (average_rate jobs grid scale) (average_local jobs grid scale) (slots_at scale slots) (slots_at scale others)
            (run.run.holds scale left) (other.run.holds scale right),
      );
  optimal_available = λ jobs grid rounded others_rounded scale slots others run other is.
      let left = scale_left scale slots others is in
      let right = scale_right scale slots others is in
      let same = runs_same jobs grid scale is.positive (optimal_available jobs grid scale) (optimal_local jobs grid scale) (slots_at scale slots) (slots_at scale others)
      (run.run.holds scale left) (other.run.holds scale right) in (
        run.rounds.holds scale left ∙ ap (λ (whole : List WholeSlot). count_by (optimal_available_rounds jobs grid scale whole) (stretches jobs)) same
            ∙ sym (other.rounds.holds scale right),
        same,
      );
}
