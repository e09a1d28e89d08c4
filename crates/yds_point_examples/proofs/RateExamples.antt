-- Runs of Average Rate that round, beside the policy itself; what has no such bound; and a run of Optimal Available that is two units above its policy.
use Rattle.yds_model.proofs.Common.{◌≡◌, ℕ, ◌*◌, List, [], ◌∷◌, ◌++◌, refl, arith, Job, Piece, Quotient, of_whole, of_parts, IsSameQuotient, WrittenSlot, IsScale, AtEachScale, slots_at, stretches, IsFeasible, average_rate, IsAverageRateRun, optimal_available, IsOptimalAvailableRun, work_in, All}
use Rattle.yds_energy.proofs.Finer.{each_scale_of}
use Rattle.yds_energy.proofs.RunScale.{average_rate_run_free, optimal_available_run_free, optimal_available_rounds_free}
use Rattle.yds_ratios.specs.SpendingByPower.{sum_of_quotients, IsAtMostTimes}
use Rattle.yds_examples.proofs.Tests.{Test, tests, proved, refuted}
use Rattle.yds_examples.proofs.TestedSchedules.{is_scale, run_at, feasible_by_test, not_feasible_by_test}
use Rattle.yds_point_laws.specs.PowerPoints.{IsAtMostTimesAnd, quotient_of, power_spent}
use Rattle.yds_point_laws.specs.PointLaws.{rate_factor}
use Rattle.yds_point_laws.proofs.PolicySpends.{policy_spends_at_most, runs_spend_at_most}
use Rattle.yds_point_laws.specs.PolicyRate.{multiple_of_quotient, policy_speed, rounded_speed, speed_in, policy_spends, rounded_spends}
use Rattle.yds_point_laws.proofs.NearRate.{runs_are_near_the_policy, runs_spend_near_the_policy}
use Rattle.yds_point_laws.proofs.RoundedCosts.{rounded_runs_cost_at_most}
use Rattle.yds_point_examples.proofs.NearMisses.{many as eighteen, rushed, calm, calm_levels, doubled, doubled_points, rushed_run, rushed_costs, calm_plan, calm_costs}
use Rattle.yds_point_examples.proofs.Costs.{job, slot, over}

-- one quotient at most so many times another
abbrev times : (factor : ℕ) (x y : Quotient) → Test (IsAtMostTimes factor x y)
times factor x y = hlevel tests

-- # A run that rounds

-- a job from 0 to 9 with work 1, and one from 0 to 1 without work
abbrev jobs : List Job
jobs = job 0 9 1 ∷ job 0 1 0 ∷ []

-- On the grid 1 the ninth of a unit until 1 is rounded up, and all is done by 1.
abbrev early : List WrittenSlot
early = slot 0 (of_whole 0) (of_whole 1) (of_whole 1) ∷ []

early_scale : IsScale 1 early
early_scale = proved (is_scale 1 early) refl

early_run : IsAverageRateRun jobs 1 2 early
early_run = record {
  run = each_scale_of _ (average_rate_run_free jobs 1) early 1 early_scale
      (proved (run_at jobs 1 1 (average_rate jobs 1 1 (slots_at 1 early)) (slots_at 1 early)) refl);
  rounds = refl;
}

abbrev first : Piece
first = record { from = 0; to = 1 }

-- The policy runs at 1/9 there, the unit that is rounded up at 1, and the run at 1.
speeds : IsSameQuotient (policy_speed jobs first) (over 1 9) × IsSameQuotient (rounded_speed jobs 1 first) (over 1 1) × IsSameQuotient (speed_in 1 (slots_at 1 early) first) (over 1 1)
speeds = (refl, refl, refl)

-- By the law 1 is at most 1/9 and 1;
by_law : AtEachScale early (λ scale whole. All (λ stretch. IsAtMostTimes 1 (speed_in scale whole stretch) (sum_of_quotients (policy_speed jobs stretch) (rounded_speed jobs 1 stretch))) (stretches jobs))
by_law = runs_are_near_the_policy jobs 1 2 early (omega arith) early_run

-- without the unit it isn't.
unit_counts : IsAtMostTimes 1 (speed_in 1 (slots_at 1 early) first) (policy_speed jobs first) → ⊥
unit_counts = refuted (times 1 (speed_in 1 (slots_at 1 early) first) (policy_speed jobs first)) refl

-- By the square the policy itself spends 1/9, and the units 1 until 1 and 1/8 from then on. The run spends 1, which is at most 2 times both,
spendings : IsSameQuotient (policy_spends 2 jobs) (over 1 9) × IsSameQuotient (rounded_spends 2 jobs 1) (over 9 8) × IsSameQuotient (power_spent 2 1 (slots_at 1 early)) (over 1 1)
spendings = (refl, refl, refl)

spends_by_law : AtEachScale early (λ scale whole. IsAtMostTimes 2 (power_spent 2 scale whole) (sum_of_quotients (policy_spends 2 jobs) (rounded_spends 2 jobs 1)))
spends_by_law = runs_spend_near_the_policy 2 jobs 1 2 early (omega arith) (omega arith) early_run

-- but more than 2 times what the policy spends.
units_count : IsAtMostTimes 2 (power_spent 2 1 (slots_at 1 early)) (policy_spends 2 jobs) → ⊥
units_count = refuted (times 2 (power_spent 2 1 (slots_at 1 early)) (policy_spends 2 jobs)) refl

-- # Beside a feasible schedule

-- All of the window is enough, and spends 1/9, as the policy itself does: at most 8 times that.
abbrev late : List WrittenSlot
late = slot 0 (of_whole 0) (of_whole 9) (of_whole 1) ∷ []

late_feasible : IsFeasible jobs late
late_feasible = feasible_by_test jobs late 1 refl refl

late_spends : IsSameQuotient (power_spent 2 1 (slots_at 1 late)) (over 1 9)
late_spends = refl

policy_by_law : AtEachScale late (λ scale whole. IsAtMostTimes 8 (policy_spends 2 jobs) (power_spent 2 scale whole))
policy_by_law = policy_spends_at_most 2 jobs late (omega arith) late_feasible

-- And the run, which spends 1, at most 2 times 8 times that and 9/8;
run_by_law : IsAtMostTimes 2 (power_spent 2 1 (slots_at 1 early)) (sum_of_quotients (multiple_of_quotient 8 (power_spent 2 1 (slots_at 1 late))) (rounded_spends 2 jobs 1))
run_by_law = runs_spend_at_most 2 jobs 1 2 early late 1 (omega arith) (omega arith) early_run late_feasible (proved (is_scale 1 (early ++ late)) refl)

-- no slots aren't feasible, and spend nothing.
nothing_feasible : IsFeasible jobs [] → ⊥
nothing_feasible = not_feasible_by_test jobs [] 1 refl refl

policy_of_nothing : IsAtMostTimes 8 (policy_spends 2 jobs) (power_spent 2 1 []) → ⊥
policy_of_nothing = refuted (times 8 (policy_spends 2 jobs) (power_spent 2 1 [])) refl

-- By an exponent of 0 the policy would spend the time of all stretches, and the one slot 1.
no_exponent : IsAtMostTimes (rate_factor 0) (policy_spends 0 jobs) (power_spent 0 1 (slots_at 1 late)) → ⊥
no_exponent = refuted (times (rate_factor 0) (policy_spends 0 jobs) (power_spent 0 1 (slots_at 1 late))) refl

-- A job from 0 to 1 of work 3: a run of it spends 9, and nothing is rounded. So it is more than what no slots spend.
abbrev alone : List WrittenSlot
alone = slot 0 (of_whole 0) (of_whole 1) (of_whole 3) ∷ []

alone_run : IsAverageRateRun (job 0 1 3 ∷ []) 1 0 alone
alone_run = record {
  run = each_scale_of _ (average_rate_run_free (job 0 1 3 ∷ []) 1) alone 1 (proved (is_scale 1 alone) refl)
      (proved (run_at (job 0 1 3 ∷ []) 1 1 (average_rate (job 0 1 3 ∷ []) 1 1 (slots_at 1 alone)) (slots_at 1 alone)) refl);
  rounds = refl;
}

run_of_nothing : IsAtMostTimes 2 (power_spent 2 1 (slots_at 1 alone)) (sum_of_quotients (multiple_of_quotient 8 (power_spent 2 1 [])) (rounded_spends 2 (job 0 1 3 ∷ []) 1)) → ⊥
run_of_nothing = refuted (times 2 (power_spent 2 1 (slots_at 1 alone)) (sum_of_quotients (multiple_of_quotient 8 (power_spent 2 1 [])) (rounded_spends 2 (job 0 1 3 ∷ []) 1))) refl

-- # The sum of both isn't enough

-- Two jobs of work 1, from 0 to 2 and from 0 to 1, and on the grid 1 one part of the first is rounded up: the run does 2 until 1.
abbrev pair : List Job
pair = job 0 2 1 ∷ job 0 1 1 ∷ []

abbrev pair_slots : List WrittenSlot
pair_slots = slot 1 (of_whole 0) (of_parts 1 2) (of_whole 1) ∷ slot 0 (of_parts 1 2) (of_whole 1) (of_whole 1) ∷ []

pair_run : IsAverageRateRun pair 1 2 pair_slots
pair_run = record {
  run = each_scale_of _ (average_rate_run_free pair 1) pair_slots 2 (proved (is_scale 2 pair_slots) refl)
      (proved (run_at pair 1 2 (average_rate pair 1 2 (slots_at 2 pair_slots)) (slots_at 2 pair_slots)) refl);
  rounds = refl;
}

-- The second job until 1 and the first from then on, both at 1: it is feasible.
abbrev pair_calm : List WrittenSlot
pair_calm = slot 1 (of_whole 0) (of_whole 1) (of_whole 1) ∷ slot 0 (of_whole 1) (of_whole 2) (of_whole 1) ∷ []

pair_feasible : IsFeasible pair pair_calm
pair_feasible = feasible_by_test pair pair_calm 1 refl refl

-- By the square the policy spends 5/2, and another schedule 2.
pair_other : IsSameQuotient (policy_spends 2 pair) (over 5 2) × (IsAtMostTimes 1 (policy_spends 2 pair) (power_spent 2 1 (slots_at 1 pair_calm)) → ⊥)
pair_other = (refl, refuted (times 1 (policy_spends 2 pair) (power_spent 2 1 (slots_at 1 pair_calm))) refl)

-- By the cube the run spends 8, the policy 7/2, and the units 2: their sum is less.
pair_spendings : IsSameQuotient (power_spent 3 2 (slots_at 2 pair_slots)) (over 8 1) × IsSameQuotient (policy_spends 3 pair) (over 7 2) × IsSameQuotient (rounded_spends 3 pair 1) (over 2 1)
pair_spendings = (refl, refl, refl)

sum_not_enough : IsAtMostTimes 1 (power_spent 3 2 (slots_at 2 pair_slots)) (sum_of_quotients (policy_spends 3 pair) (rounded_spends 3 pair 1)) → ⊥
sum_not_enough = refuted (times 1 (power_spent 3 2 (slots_at 2 pair_slots)) (sum_of_quotients (policy_spends 3 pair) (rounded_spends 3 pair 1))) refl

-- # No run

-- a job from 0 to 4 with work 4 that is done by 1, where a job without work ends: it is feasible,
abbrev hurried : List Job
hurried = job 0 4 4 ∷ job 0 1 0 ∷ []

abbrev hasty : List WrittenSlot
hasty = slot 0 (of_whole 0) (of_whole 1) (of_whole 4) ∷ []

hasty_feasible : IsFeasible hurried hasty
hasty_feasible = feasible_by_test hurried hasty 1 refl refl

-- but runs at 4 where the policy runs at 1 and nothing is rounded,
not_near : IsAtMostTimes 1 (speed_in 1 (slots_at 1 hasty) first) (sum_of_quotients (policy_speed hurried first) (rounded_speed hurried 1 first)) → ⊥
not_near = refuted (times 1 (speed_in 1 (slots_at 1 hasty) first) (sum_of_quotients (policy_speed hurried first) (rounded_speed hurried 1 first))) refl

-- and spends 16 by the square, where the policy spends 4.
hasty_spends : IsAtMostTimes 2 (power_spent 2 1 (slots_at 1 hasty)) (sum_of_quotients (policy_spends 2 hurried) (rounded_spends 2 hurried 1)) → ⊥
hasty_spends = refuted (times 2 (power_spent 2 1 (slots_at 1 hasty)) (sum_of_quotients (policy_spends 2 hurried) (rounded_spends 2 hurried 1))) refl

-- With work 40 until 40 it spends 1600, which is more than 2 times 8 times the 40 of the policy, too.
abbrev longer : List Job
longer = job 0 40 40 ∷ job 0 1 0 ∷ []

abbrev longer_hasty : List WrittenSlot
longer_hasty = slot 0 (of_whole 0) (of_whole 1) (of_whole 40) ∷ []

abbrev longer_even : List WrittenSlot
longer_even = slot 0 (of_whole 0) (of_whole 40) (of_whole 40) ∷ []

longer_spends : IsFeasible longer longer_hasty × IsFeasible longer longer_even × (IsAtMostTimes 2 (power_spent 2 1 (slots_at 1 longer_hasty))
    (sum_of_quotients (multiple_of_quotient 8 (power_spent 2 1 (slots_at 1 longer_even))) (rounded_spends 2 longer 1)) → ⊥)
longer_spends = (
  feasible_by_test longer longer_hasty 1 refl refl,
  feasible_by_test longer longer_even 1 refl refl,
  refuted (times 2 (power_spent 2 1 (slots_at 1 longer_hasty)) (sum_of_quotients (multiple_of_quotient 8 (power_spent 2 1 (slots_at 1 longer_even))) (rounded_spends 2 longer 1))) refl,
)

-- On the grid 0 a unit would be over nothing.
no_grid : IsAtMostTimes 1 (speed_in 1 (slots_at 1 early) first) (sum_of_quotients (policy_speed jobs first) (rounded_speed jobs 0 first)) → ⊥
no_grid most = absurd (omega (arith, most.other_some))

-- # On operating points

-- The eighteen jobs of which the run rounds each part up, on the squares of 1, 2, 4, 8, 16 and 32: the units would spend 324 until 1 and 324/17 from then on.
many_rounded : IsSameQuotient (rounded_spends 2 eighteen 1) (over 5832 17)
many_rounded = refl

-- The run costs 352, which is at most 2 times 2 times what 8 times 18 and they are together, and 1 for each unit of work.
many_by_law : IsAtMostTimesAnd (over (2 * 2) 1) 18 (quotient_of (of_whole 352)) (sum_of_quotients (multiple_of_quotient 8 (quotient_of (of_whole 18))) (rounded_spends 2 eighteen 1))
many_by_law =
    rounded_runs_cost_at_most 2 2 1 1 eighteen doubled 1 2 rushed calm calm_levels _ _ (omega arith) (omega arith) doubled_points rushed_run rushed_costs calm_plan calm_costs.is_spent

-- # Optimal Available

-- Four jobs, and four without work, which make event points.
abbrev many : List Job
many =
    job 24 26 10 ∷ job 4 30 13 ∷ job 27 28 7 ∷ job 18 28 10 ∷ job 11 12 0 ∷ job 13 14 0 ∷ job 15 16 0 ∷ job 17 18 0 ∷ []

-- its run on the grid 1, which rounds,
abbrev rounded : List WrittenSlot
rounded =
    slot 1 (of_whole 4) (of_whole 11) (of_whole 4) ∷ slot 1 (of_whole 11) (of_whole 12) (of_whole 1)
    ∷ slot 1 (of_whole 12) (of_whole 13) (of_whole 1) ∷ slot 1 (of_whole 13) (of_whole 14) (of_whole 1)
    ∷ slot 1 (of_whole 14) (of_whole 15) (of_whole 1) ∷ slot 1 (of_whole 15) (of_whole 16) (of_whole 1)
    ∷ slot 1 (of_whole 16) (of_whole 17) (of_whole 1) ∷ slot 1 (of_whole 17) (of_whole 18) (of_whole 1)
    ∷ slot 3 (of_whole 18) (of_whole 24) (of_whole 6) ∷ slot 0 (of_whole 24) (of_whole 26) (of_whole 10)
    ∷ slot 3 (of_whole 26) (of_whole 27) (of_whole 2) ∷ slot 2 (of_whole 27) (of_parts 250 9) (of_whole 7)
    ∷ slot 3 (of_parts 250 9) (of_whole 28) (of_whole 2) ∷ slot 1 (of_whole 28) (of_whole 30) (of_whole 2) ∷ []

rounded_scale : IsScale 9 rounded
rounded_scale = proved (is_scale 9 rounded) refl

rounded_run : IsOptimalAvailableRun many 1 8 rounded
rounded_run = record {
  run = each_scale_of _ (optimal_available_run_free many 1) rounded 9 rounded_scale
      (proved (run_at many 1 9 (optimal_available many 1 9 (slots_at 9 rounded)) (slots_at 9 rounded)) refl);
  rounds = each_scale_of _ (optimal_available_rounds_free many 1 8) rounded 9 rounded_scale refl;
}

-- and on the grid 2, which never does
abbrev exact : List WrittenSlot
exact =
    slot 1 (of_whole 4) (of_whole 11) (of_parts 7 2) ∷ slot 1 (of_whole 11) (of_whole 12) (of_parts 1 2)
    ∷ slot 1 (of_whole 12) (of_whole 13) (of_parts 1 2) ∷ slot 1 (of_whole 13) (of_whole 14) (of_parts 1 2)
    ∷ slot 1 (of_whole 14) (of_whole 15) (of_parts 1 2) ∷ slot 1 (of_whole 15) (of_whole 16) (of_parts 1 2)
    ∷ slot 1 (of_whole 16) (of_whole 17) (of_parts 1 2) ∷ slot 1 (of_whole 17) (of_whole 18) (of_parts 1 2)
    ∷ slot 3 (of_whole 18) (of_whole 24) (of_whole 8) ∷ slot 0 (of_whole 24) (of_whole 26) (of_whole 10)
    ∷ slot 3 (of_whole 26) (of_whole 27) (of_whole 2) ∷ slot 2 (of_whole 27) (of_whole 28) (of_whole 7)
    ∷ slot 1 (of_whole 28) (of_whole 30) (of_whole 6) ∷ []

exact_scale : IsScale 2 exact
exact_scale = proved (is_scale 2 exact) refl

exact_run : IsOptimalAvailableRun many 2 0 exact
exact_run = record {
  run = each_scale_of _ (optimal_available_run_free many 2) exact 2 exact_scale
      (proved (run_at many 2 2 (optimal_available many 2 2 (slots_at 2 exact)) (slots_at 2 exact)) refl);
  rounds = each_scale_of _ (optimal_available_rounds_free many 2 0) exact 2 exact_scale refl;
}

-- From 27 to 28 the one does 9 and the other 7: two units more, though it rounds up at most one at each event point.
two_more : (work_in 9 (record { from = 27; to = 28 }) (slots_at 9 rounded) ≡ 9 * 9) × (work_in 2 (record { from = 27; to = 28 }) (slots_at 2 exact) ≡ 7 * 2)
two_more = (refl, refl)
