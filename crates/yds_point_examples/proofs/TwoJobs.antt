-- Two jobs, a from 0 to 4 and b from 2 to 4, both of work 2. Each policy runs at 1/2 and then at 3/2, and the plan at 1. What they cost on points of the
-- square: of the speeds 1 and 2, which are within the ratio 2, and of 1 and 100, which aren't.
use Rattle.yds_model.proofs.Common.{◌≡◌, ℕ, ◌*◌, List, [], ◌∷◌, length, ap, refl, false, arith, Job, of_whole, of_parts, IsSameQuotient, WrittenSlot, IsScale, AtEachScale, slots_at, Level, IsPlan, Point, point_at, average_rate, IsAverageRateRun, optimal_available, IsOptimalAvailableRun, Spent, IsSpent, HoldsAll}
use Rattle.yds_energy.proofs.Finer.{each_scale_of}
use Rattle.yds_energy.proofs.RunScale.{average_rate_run_free, optimal_available_run_free, optimal_available_rounds_free}
use Rattle.yds_examples.proofs.Tests.{proved, refuted}
use Rattle.yds_examples.proofs.TestedSchedules.{is_scale, run_at}
use Rattle.yds_examples.proofs.TestedPlans.{proper_by_test, served_by_test, plan_by_test}
use Rattle.yds_point_laws.specs.PowerPoints.{power_points, RiseWithin, ArePowerPoints, IsAtMostTimesAnd, quotient_of, power_spent, CostsByPower}
use Rattle.yds_point_laws.specs.PolicyRate.{multiple_of_quotient, rounded_spends}
use Rattle.yds_ratios.specs.SpendingByPower.{sum_of_quotients}
use Rattle.yds_point_laws.proofs.RoundedCosts.{rounded_runs_cost_at_most}
use Rattle.yds_point_laws.proofs.PointCosts.{points_cost_by_power, policies_cost_at_most}
use Rattle.yds_point_laws.proofs.PricedCosts.{policies_cost_times}
use Rattle.yds_point_examples.proofs.Costs.{job, slot, level, over, rise_within, at_most, costs, spends_by_test, holds_by_test}

-- the jobs
abbrev pub jobs : List Job
jobs = job 0 4 2 ∷ job 2 4 2 ∷ []

-- both policies' run
abbrev pub run : List WrittenSlot
run = slot 0 (of_whole 0) (of_whole 2) (of_whole 1) ∷ slot 0 (of_whole 2) (of_parts 8 3) (of_whole 1) ∷ slot 1 (of_parts 8 3) (of_whole 4) (of_whole 2) ∷ []

run_scale : IsScale 3 run
run_scale = proved (is_scale 3 run) refl

-- on the grid 4 it never rounds
pub rate_run : IsAverageRateRun jobs 4 0 run
rate_run = record {
  run = each_scale_of _ (average_rate_run_free jobs 4) run 3 run_scale (proved (run_at jobs 4 3 (average_rate jobs 4 3 (slots_at 3 run)) (slots_at 3 run)) refl);
  rounds = refl;
}

pub available_run : IsOptimalAvailableRun jobs 4 0 run
available_run = record {
  run = each_scale_of _ (optimal_available_run_free jobs 4) run 3 run_scale
      (proved (run_at jobs 4 3 (optimal_available jobs 4 3 (slots_at 3 run)) (slots_at 3 run)) refl);
  rounds = each_scale_of _ (optimal_available_rounds_free jobs 4 0) run 3 run_scale refl;
}

-- the plan
abbrev pub planned : List WrittenSlot
planned = slot 0 (of_whole 0) (of_whole 2) (of_whole 2) ∷ slot 1 (of_whole 2) (of_whole 4) (of_whole 2) ∷ []

abbrev pub levels : List Level
levels = level 4 4 0 4 (0 ∷ 1 ∷ []) ∷ []

pub plan : IsPlan jobs planned levels
plan = plan_by_test jobs planned levels (proper_by_test jobs planned levels refl refl refl) (served_by_test jobs planned 1 refl refl) refl

-- By the square the run spends 5, and the plan 4.
run_spends : IsSameQuotient (power_spent 2 3 (slots_at 3 run)) (over 5 1)
run_spends = refl

plan_spends : IsSameQuotient (power_spent 2 1 (slots_at 1 planned)) (over 4 1)
plan_spends = refl

-- # Points within the ratio 2

-- the squares of 1 and 2
abbrev pub near : List Point
near = power_points 2 (1 ∷ 2 ∷ [])

pub near_points : ArePowerPoints 2 2 1 1 near
near_points = record {
  faster = 2 ∷ [];
  points_are = refl;
  not_idle = omega arith;
  within = proved (rise_within 2 1 (1 ∷ 2 ∷ [])) refl;
  some = omega arith;
  ratio = omega arith;
}

-- On them the run costs 6,
abbrev run_spent : Spent
run_spent = record { energy = of_whole 6; times = of_whole 1 ∷ of_whole 2 ∷ of_whole 1 ∷ [] }

pub run_holds : HoldsAll jobs near run run_spent
run_holds = holds_by_test jobs near run run_spent 3 refl (omega arith) (record { energy = refl; times = refl }) refl

-- and the plan 4.
abbrev plan_spent : Spent
plan_spent = record { energy = of_whole 4; times = of_whole 0 ∷ of_whole 4 ∷ of_whole 0 ∷ [] }

pub plan_holds : HoldsAll jobs near planned plan_spent
plan_holds = holds_by_test jobs near planned plan_spent 1 refl (omega arith) (record { energy = refl; times = refl }) refl

-- By the law 6 is at least 5, and at least 1 for each unit of work, and at most 2 times 5 and 1 for each;
by_law : AtEachScale run (CostsByPower 2 2 1 1 4 (of_whole 6))
by_law = points_cost_by_power.run 2 2 1 1 jobs near 4 (average_rate jobs 4) run run_spent (omega arith) near_points rate_run.run run_holds

-- so it is with the plan,
plan_by_law : AtEachScale planned (CostsByPower 2 2 1 1 4 (of_whole 4))
plan_by_law = points_cost_by_power.plan 2 2 1 1 jobs near planned levels plan_spent (omega arith) near_points plan plan_holds

-- which costs no more than it spends and than its work does.
least_reached : (costs 2 2 1 1 4 (of_parts 39999 10000) 1 (slots_at 1 planned)).passes ≡ false
least_reached = refl

-- 6 is at most 4 times 2 times 4, and 1 for each unit of work, as what Optimal Available costs; and as what Average Rate does, 8 times 2 times 4
available_costs : IsAtMostTimesAnd (over (4 * 2) 1) 4 (quotient_of (of_whole 6)) (quotient_of (of_whole 4))
available_costs =
    policies_cost_at_most.optimal_available 2 2 1 1 jobs near 4 run planned levels run_spent plan_spent (omega arith) (omega arith) near_points available_run run_holds plan
    plan_holds.is_spent

rate_costs : IsAtMostTimesAnd (over (8 * 2) 1) 4 (quotient_of (of_whole 6)) (quotient_of (of_whole 4))
rate_costs =
    policies_cost_at_most.average_rate 2 2 1 1 jobs near 4 run planned levels run_spent plan_spent (omega arith) (omega arith) near_points rate_run run_holds plan
    plan_holds.is_spent

-- and it is at most 8 and 17 times 4.
times : IsAtMostTimesAnd (over 8 1) 0 (quotient_of (of_whole 6)) (quotient_of (of_whole 4)) × IsAtMostTimesAnd (over 17 1) 0 (quotient_of (of_whole 6)) (quotient_of (of_whole 4))
times = (
  policies_cost_times.optimal_available 2 2 1 1 jobs near 4 run planned levels run_spent plan_spent (omega arith) (omega arith) near_points available_run run_holds plan
      plan_holds.is_spent,
  policies_cost_times.average_rate 2 2 1 1 jobs near 4 run planned levels run_spent plan_spent (omega arith) (omega arith) near_points rate_run run_holds plan
      plan_holds.is_spent,
)

-- # Points that aren't within it

-- the squares of 1 and 100
abbrev far : List Point
far = power_points 2 (1 ∷ 100 ∷ [])

-- On them the run costs 104, with a hundredth of its last stretch and a little more at the speed 100, and the plan 4.
abbrev far_spent : Spent
far_spent = record { energy = of_whole 104; times = of_whole 1 ∷ of_parts 296 99 ∷ of_parts 1 99 ∷ [] }

far_holds : HoldsAll jobs far run far_spent
far_holds = holds_by_test jobs far run far_spent 3 refl (omega arith) (record { energy = refl; times = refl }) refl

plan_far : IsSpent jobs far planned plan_spent
plan_far = spends_by_test jobs far planned plan_spent 1 refl (omega arith) (record { energy = refl; times = refl })

-- They are within the ratio 100 and in order,
far_points : ArePowerPoints 2 100 1 1 far
far_points = record {
  faster = 100 ∷ [];
  points_are = refl;
  not_idle = omega arith;
  within = proved (rise_within 100 1 (1 ∷ 100 ∷ [])) refl;
  some = omega arith;
  ratio = omega arith;
}

-- so 104 is at most 4 times 100 times 4, and 1 for each unit of work.
far_costs : IsAtMostTimesAnd (over (4 * 100) 1) 4 (quotient_of (of_whole 104)) (quotient_of (of_whole 4))
far_costs =
    policies_cost_at_most.optimal_available 2 100 1 1 jobs far 4 run planned levels far_spent plan_spent (omega arith) (omega arith) far_points available_run far_holds plan plan_far

-- The ratio 2 isn't theirs:
second_within : (faster : List ℕ) → far ≡ power_points 2 (1 ∷ faster) → RiseWithin 2 1 (1 ∷ faster) → ⊥
second_within [] are within = absurd (omega (arith, ap (λ (points : List Point). length points) are))
second_within (next ∷ faster) are within = absurd (omega (arith, ap (λ (points : List Point). (point_at points 2).speed) are, within.1))

not_near : ArePowerPoints 2 2 1 1 far → ⊥
not_near is = second_within is.faster is.points_are is.within

-- 104 is more than 2 times 5 and 1 for each unit of work,
not_by_law : CostsByPower 2 2 1 1 4 (of_whole 104) 3 (slots_at 3 run) → ⊥
not_by_law = refuted (costs 2 2 1 1 4 (of_whole 104) 3 (slots_at 3 run)) refl

-- and more than 4 or 8 times 2 times 4 and 1 for each unit of work, and than 8 or 17 times 4.
too_much : (IsAtMostTimesAnd (over (4 * 2) 1) 4 (quotient_of (of_whole 104)) (quotient_of (of_whole 4)) → ⊥)
    × (IsAtMostTimesAnd (over (8 * 2) 1) 4 (quotient_of (of_whole 104)) (quotient_of (of_whole 4)) → ⊥)
    × (IsAtMostTimesAnd (over 8 1) 0 (quotient_of (of_whole 104)) (quotient_of (of_whole 4)) → ⊥)
    × (IsAtMostTimesAnd (over 17 1) 0 (quotient_of (of_whole 104)) (quotient_of (of_whole 4)) → ⊥)
too_much = (
  refuted (at_most (over (4 * 2) 1) 4 (over 104 1) (over 4 1)) refl,
  refuted (at_most (over (8 * 2) 1) 4 (over 104 1) (over 4 1)) refl,
  refuted (at_most (over 8 1) 0 (over 104 1) (over 4 1)) refl,
  refuted (at_most (over 17 1) 0 (over 104 1) (over 4 1)) refl,
)

-- # No plan

-- No slots cost nothing, and aren't a plan of these jobs. The run costs more than that and than 1 for each unit of work.
nothing_spent : IsSpent jobs near [] (record { energy = of_whole 0; times = of_whole 4 ∷ of_whole 0 ∷ of_whole 0 ∷ [] })
nothing_spent = spends_by_test jobs near [] _ 1 refl (omega arith) (record { energy = refl; times = refl })

more_than_nothing : (IsAtMostTimesAnd (over (4 * 2) 1) 4 (quotient_of (of_whole 6)) (quotient_of (of_whole 0)) → ⊥)
    × (IsAtMostTimesAnd (over 17 1) 0 (quotient_of (of_whole 6)) (quotient_of (of_whole 0)) → ⊥)
more_than_nothing = (refuted (at_most (over (4 * 2) 1) 4 (over 6 1) (over 0 1)) refl, refuted (at_most (over 17 1) 0 (over 6 1) (over 0 1)) refl)

-- # A run that may round

-- What a run costs that may round: 6 is at most 2 times 2 times 8 times 4, and 1 for each unit of work; nothing is rounded here.
rounded_by_law : IsAtMostTimesAnd (over (2 * 2) 1) 4 (quotient_of (of_whole 6)) (sum_of_quotients (multiple_of_quotient 8 (quotient_of (of_whole 4))) (rounded_spends 2 jobs 4))
rounded_by_law =
    rounded_runs_cost_at_most 2 2 1 1 jobs near 4 0 run planned levels run_spent plan_spent (omega arith) (omega arith) near_points rate_run run_holds plan plan_holds.is_spent

-- On the squares of 1 and 1000 the run costs 1004, which is more.
abbrev thousand_spent : Spent
thousand_spent = record { energy = of_whole 1004; times = of_whole 1 ∷ of_parts 2996 999 ∷ of_parts 1 999 ∷ [] }

thousand_holds : HoldsAll jobs (power_points 2 (1 ∷ 1000 ∷ [])) run thousand_spent
thousand_holds = holds_by_test jobs (power_points 2 (1 ∷ 1000 ∷ [])) run thousand_spent 3 refl (omega arith) (record { energy = refl; times = refl }) refl

-- So it is for the ratio 2, and 6 is more than where no slots stand for the plan.
rounded_too_much : (IsAtMostTimesAnd (over (2 * 2) 1) 4 (quotient_of (of_whole 1004)) (sum_of_quotients (multiple_of_quotient 8 (quotient_of (of_whole 4))) (rounded_spends 2 jobs 4)) → ⊥)
    × (IsAtMostTimesAnd (over (2 * 2) 1) 4 (quotient_of (of_whole 6)) (sum_of_quotients (multiple_of_quotient 8 (quotient_of (of_whole 0))) (rounded_spends 2 jobs 4)) → ⊥)
rounded_too_much = (
  refuted (at_most (over (2 * 2) 1) 4 (over 1004 1) (sum_of_quotients (multiple_of_quotient 8 (over 4 1)) (rounded_spends 2 jobs 4))) refl,
  refuted (at_most (over (2 * 2) 1) 4 (over 6 1) (sum_of_quotients (multiple_of_quotient 8 (over 0 1)) (rounded_spends 2 jobs 4))) refl,
)
