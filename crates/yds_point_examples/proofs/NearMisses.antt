-- Near misses of the laws on points of a power: a point that isn't on it, a slowest point that isn't theirs, a top point that is too slow, slots of more
-- than one speed, an exponent of 0, and a run that rounded.
use Rattle.yds_model.proofs.Common.{ℕ, zero, suc, ◌*◌, List, [], ◌∷◌, ◌++◌, map, range_with_len, ap, refl, arith, Job, of_whole, of_parts, IsSameQuotient, WrittenSlot, IsScale, slots_at, Piece, Level, IsPlan, Point, point_at, IsFeasible, HoldsStretch, stretches, ServesCapacity, IsRunAt, average_rate, IsAverageRateRun, IsSpent, HoldsAll, All}
use Rattle.yds_energy.proofs.Finer.{each_scale_of}
use Rattle.yds_energy.proofs.RunScale.{average_rate_run_free}
use Rattle.yds_examples.proofs.Tests.{proved, refuted}
use Rattle.yds_examples.proofs.TestedSchedules.{is_scale, run_at, feasible_by_test}
use Rattle.yds_examples.proofs.TestedPlans.{proper_by_test, served_by_test, plan_by_test}
use Rattle.yds_point_laws.specs.PowerPoints.{power_points, ArePowerPoints, IsAtMostTimesAnd, quotient_of, power_spent, CostsByPower}
use Rattle.yds_point_examples.proofs.Costs.{job, slot, level, over, rise_within, at_most, costs, all_hold, spends_by_test, holds_by_test}

-- # A point that isn't on the power

-- a job from 0 to 1 of work 1, and its plan
abbrev one : List Job
one = job 0 1 1 ∷ []

abbrev one_slot : List WrittenSlot
one_slot = slot 0 (of_whole 0) (of_whole 1) (of_whole 1) ∷ []

one_plan : IsPlan one one_slot (level 1 1 0 1 (0 ∷ []) ∷ [])
one_plan =
    plan_by_test one one_slot (level 1 1 0 1 (0 ∷ []) ∷ []) (proper_by_test one one_slot (level 1 1 0 1 (0 ∷ []) ∷ []) refl refl refl) (served_by_test one one_slot 1 refl refl) refl

-- a first point of some power, and one of the speed 1
abbrev two_points : ℕ → ℕ → List Point
two_points idle power = record { speed = 0; power = idle } ∷ record { speed = 1; power = power } ∷ []

-- at a power of 3 the speed 1 costs 3, and at none it costs nothing
costs_three : HoldsAll one (two_points 0 3) one_slot (record { energy = of_whole 3; times = of_whole 0 ∷ of_whole 1 ∷ [] })
costs_three = holds_by_test one (two_points 0 3) one_slot _ 1 refl (omega arith) (record { energy = refl; times = refl }) refl

costs_nothing : HoldsAll one (two_points 0 0) one_slot (record { energy = of_whole 0; times = of_whole 0 ∷ of_whole 1 ∷ [] })
costs_nothing = holds_by_test one (two_points 0 0) one_slot _ 1 refl (omega arith) (record { energy = refl; times = refl }) refl

-- Neither is on the square,
off_the_square : (ArePowerPoints 2 1 1 1 (two_points 0 3) → ⊥) × (ArePowerPoints 2 1 1 1 (two_points 0 0) → ⊥)
off_the_square = (
  λ is. absurd (omega (arith, ap (λ (points : List Point). (point_at points 1).power) is.points_are)),
  λ is. absurd (omega (arith, ap (λ (points : List Point). (point_at points 1).power) is.points_are)),
)

-- and 3 is more than the 1 that is spent, and 1 for the unit of work, and 0 less than that.
off_costs : (CostsByPower 2 1 1 1 1 (of_whole 3) 1 (slots_at 1 one_slot) → ⊥) × (CostsByPower 2 1 1 1 1 (of_whole 0) 1 (slots_at 1 one_slot) → ⊥)
off_costs = (refuted (costs 2 1 1 1 1 (of_whole 3) 1 (slots_at 1 one_slot)) refl, refuted (costs 2 1 1 1 1 (of_whole 0) 1 (slots_at 1 one_slot)) refl)

-- Where the first point costs something, so does time in which nothing runs: here a second job, without work, has its window long after.
abbrev waiting : List Job
waiting = job 0 1 1 ∷ job 4 5 0 ∷ []

waiting_costs : HoldsAll waiting (two_points 1 1) one_slot (record { energy = of_whole 5; times = of_whole 4 ∷ of_whole 1 ∷ [] })
waiting_costs = holds_by_test waiting (two_points 1 1) one_slot _ 1 refl (omega arith) (record { energy = refl; times = refl }) refl

idle_costs : (ArePowerPoints 2 1 1 1 (two_points 1 1) → ⊥) × (CostsByPower 2 1 1 1 1 (of_whole 5) 1 (slots_at 1 one_slot) → ⊥)
idle_costs = (
  λ is. absurd (omega (arith, ap (λ (points : List Point). (point_at points 0).power) is.points_are)),
  refuted (costs 2 1 1 1 1 (of_whole 5) 1 (slots_at 1 one_slot)) refl,
)

-- # A slowest point that isn't theirs

-- a job from 0 to 4 of work 2, at 1/2 throughout
abbrev pub slow : List Job
slow = job 0 4 2 ∷ []

abbrev pub slow_slot : List WrittenSlot
slow_slot = slot 0 (of_whole 0) (of_whole 4) (of_whole 2) ∷ []

-- On the point 100 10000 alone it costs 200, and spends 1 by the square,
abbrev pub hundred : List Point
hundred = power_points 2 (100 ∷ [])

hundred_costs : HoldsAll slow hundred slow_slot (record { energy = of_whole 200; times = of_parts 199 50 ∷ of_parts 1 50 ∷ [] })
hundred_costs = holds_by_test slow hundred slow_slot _ 1 refl (omega arith) (record { energy = refl; times = refl }) refl

slow_spends : IsSameQuotient (power_spent 2 1 (slots_at 1 slow_slot)) (over 1 1)
slow_spends = refl

-- which is at most 1 and 100 for each unit of work, but not at most 1 and 1 for each.
slowest_counts : CostsByPower 2 1 1 100 2 (of_whole 200) 1 (slots_at 1 slow_slot) × (CostsByPower 2 1 1 1 2 (of_whole 200) 1 (slots_at 1 slow_slot) → ⊥)
slowest_counts = (proved (costs 2 1 1 100 2 (of_whole 200) 1 (slots_at 1 slow_slot)) refl, refuted (costs 2 1 1 1 2 (of_whole 200) 1 (slots_at 1 slow_slot)) refl)

not_slowest : ArePowerPoints 2 1 1 1 hundred → ⊥
not_slowest is = absurd (omega (arith, ap (λ (points : List Point). (point_at points 1).speed) is.points_are))

-- Nor is there a ratio below 1, or over 0, or a slowest point of the speed 0.
no_ratio : (ArePowerPoints 2 0 1 100 hundred → ⊥) × (ArePowerPoints 2 1 0 100 hundred → ⊥) × (ArePowerPoints 2 1 1 0 (power_points 2 (0 ∷ [])) → ⊥)
no_ratio = (λ is. absurd (omega (arith, is.ratio)), λ is. absurd (omega (arith, is.some)), λ is. absurd (omega (arith, is.not_idle)))

-- And what is over 0 is at most no number of times another, also where it is 0, nor another such a number of times it, nor 0 over 0 times as much.
over_nothing : (IsAtMostTimesAnd (over 1 1) 1 (over 0 0) (over 1 1) → ⊥) × (IsAtMostTimesAnd (over 1 1) 1 (over 0 1) (over 1 0) → ⊥) × (IsAtMostTimesAnd (over 0 0) 1 (over 0 1) (over 1 1) → ⊥)
over_nothing = (
  refuted (at_most (over 1 1) 1 (over 0 0) (over 1 1)) refl,
  refuted (at_most (over 1 1) 1 (over 0 1) (over 1 0)) refl,
  refuted (at_most (over 0 0) 1 (over 0 1) (over 1 1)) refl,
)

-- # A top point that is too slow

-- a job from 0 to 1 of work 3 on the point 1 1
abbrev quick : List WrittenSlot
quick = slot 0 (of_whole 0) (of_whole 1) (of_whole 3) ∷ []

-- What would be its cost there is 1, for all of the time at the speed 1,
quick_costs : IsSpent (job 0 1 3 ∷ []) (power_points 2 (1 ∷ [])) quick (record { energy = of_whole 1; times = of_whole 0 ∷ of_whole 1 ∷ [] })
quick_costs = spends_by_test (job 0 1 3 ∷ []) (power_points 2 (1 ∷ [])) quick _ 1 refl (omega arith) (record { energy = refl; times = refl })

-- which is less than the 9 that are spent by the square. The stretch is above the top point.
too_quick : (CostsByPower 2 1 1 1 3 (of_whole 1) 1 (slots_at 1 quick) → ⊥) × (All (HoldsStretch (power_points 2 (1 ∷ [])) 1 (slots_at 1 quick)) (stretches (job 0 1 3 ∷ [])) → ⊥)
too_quick = (
  refuted (costs 2 1 1 1 3 (of_whole 1) 1 (slots_at 1 quick)) refl,
  refuted (all_hold (job 0 1 3 ∷ []) (power_points 2 (1 ∷ [])) 1 (slots_at 1 quick)) refl,
)

-- # Slots of more than one speed

-- a job from 0 to 4 of work 4 at twice the speed for half the time: it is feasible,
abbrev hasty : List WrittenSlot
hasty = slot 0 (of_whole 1) (of_whole 3) (of_whole 4) ∷ []

hasty_feasible : IsFeasible (job 0 4 4 ∷ []) hasty
hasty_feasible = feasible_by_test (job 0 4 4 ∷ []) hasty 1 refl refl

-- but fills no stretch, whatever is set for it,
fills_none : (grid capacity : ℕ) → ServesCapacity grid 1 capacity (record { from = 0; to = 4 }) (slots_at 1 hasty) → ⊥
fills_none grid zero none = absurd cc
fills_none grid (suc capacity) fills = absurd (omega (arith, fills.0))

-- so it is no policy's run,
no_run : (grid : ℕ) (capacity : Piece → ℕ) → IsRunAt (job 0 4 4 ∷ []) grid 1 capacity (slots_at 1 hasty) → ⊥
no_run grid capacity run = fills_none grid (capacity (record { from = 0; to = 4 })) (run.each 0 (record { from = 0; to = 4 }) (omega arith))

-- and what would be its cost on the squares of 1 and 2 is 4, for all of the time at 1, which is less than the 8 that are spent.
hasty_costs : HoldsAll (job 0 4 4 ∷ []) (power_points 2 (1 ∷ 2 ∷ [])) hasty (record { energy = of_whole 4; times = of_whole 0 ∷ of_whole 4 ∷ of_whole 0 ∷ [] })
hasty_costs = holds_by_test (job 0 4 4 ∷ []) (power_points 2 (1 ∷ 2 ∷ [])) hasty _ 1 refl (omega arith) (record { energy = refl; times = refl }) refl

hasty_off : CostsByPower 2 2 1 1 4 (of_whole 4) 1 (slots_at 1 hasty) → ⊥
hasty_off = refuted (costs 2 2 1 1 4 (of_whole 4) 1 (slots_at 1 hasty)) refl

-- # An exponent of 0

-- two jobs of work 1, one after the other, and the point of the speed 2 at the power 2 ^ 0
abbrev pair : List Job
pair = job 0 1 1 ∷ job 1 2 1 ∷ []

abbrev pair_slots : List WrittenSlot
pair_slots = slot 0 (of_whole 0) (of_whole 1) (of_whole 1) ∷ slot 1 (of_whole 1) (of_whole 2) (of_whole 1) ∷ []

pair_plan : IsPlan pair pair_slots (level 2 2 0 2 (0 ∷ 1 ∷ []) ∷ [])
pair_plan =
    plan_by_test pair pair_slots (level 2 2 0 2 (0 ∷ 1 ∷ []) ∷ []) (proper_by_test pair pair_slots (level 2 2 0 2 (0 ∷ 1 ∷ []) ∷ []) refl refl refl)
    (served_by_test pair pair_slots 1 refl refl) refl

-- half of the time at 2 costs 1, and the two slots would spend 2
pair_costs : HoldsAll pair (power_points 0 (2 ∷ [])) pair_slots (record { energy = of_whole 1; times = of_whole 1 ∷ of_whole 1 ∷ [] })
pair_costs = holds_by_test pair (power_points 0 (2 ∷ [])) pair_slots _ 1 refl (omega arith) (record { energy = refl; times = refl }) refl

pair_off : ArePowerPoints 0 1 1 2 (power_points 0 (2 ∷ [])) × (CostsByPower 0 1 1 2 2 (of_whole 1) 1 (slots_at 1 pair_slots) → ⊥)
pair_off = (
  record { faster = []; points_are = refl; not_idle = omega arith; within = tt; some = omega arith; ratio = omega arith },
  refuted (costs 0 1 1 2 2 (of_whole 1) 1 (slots_at 1 pair_slots)) refl,
)

-- # A run that rounded

-- eighteen jobs from 0 to 18 of work 1, and one from 0 to 1 without work
abbrev pub many : List Job
many = map (λ k. job 0 18 1) (range_with_len 0 18) ++ (job 0 1 0 ∷ [])

-- On the grid 1 Average Rate rounds each eighteenth of a unit up, and all is done by 1, at the speed 18.
abbrev pub rushed : List WrittenSlot
rushed = map (λ k. slot k (of_parts k 18) (of_parts (suc k) 18) (of_whole 1)) (range_with_len 0 18)

rushed_scale : IsScale 18 rushed
rushed_scale = proved (is_scale 18 rushed) refl

pub rushed_run : IsAverageRateRun many 1 2 rushed
rushed_run = record {
  run = each_scale_of _ (average_rate_run_free many 1) rushed 18 rushed_scale
      (proved (run_at many 1 18 (average_rate many 1 18 (slots_at 18 rushed)) (slots_at 18 rushed)) refl);
  rounds = refl;
}

-- The plan runs at 1.
abbrev pub calm : List WrittenSlot
calm = map (λ k. slot k (of_whole k) (of_whole (suc k)) (of_whole 1)) (range_with_len 0 18)

abbrev pub calm_levels : List Level
calm_levels = level 18 18 0 18 (range_with_len 0 18) ∷ []

pub calm_plan : IsPlan many calm calm_levels
calm_plan = plan_by_test many calm calm_levels (proper_by_test many calm calm_levels refl refl refl) (served_by_test many calm 1 refl refl) refl

-- Points of the square within the ratio 2, the last of the speed 32
abbrev pub doubled : List Point
doubled = power_points 2 (1 ∷ 2 ∷ 4 ∷ 8 ∷ 16 ∷ 32 ∷ [])

pub doubled_points : ArePowerPoints 2 2 1 1 doubled
doubled_points = record {
  faster = 2 ∷ 4 ∷ 8 ∷ 16 ∷ 32 ∷ [];
  points_are = refl;
  not_idle = omega arith;
  within = proved (rise_within 2 1 (1 ∷ 2 ∷ 4 ∷ 8 ∷ 16 ∷ 32 ∷ [])) refl;
  some = omega arith;
  ratio = omega arith;
}

-- On them the run costs 352, for 7/8 of a unit of time at 16 and 1/8 at 32,
pub rushed_costs : HoldsAll many doubled rushed (record {
  energy = of_whole 352;
  times = of_whole 17 ∷ of_whole 0 ∷ of_whole 0 ∷ of_whole 0 ∷ of_whole 0 ∷ of_parts 7 8 ∷ of_parts 1 8 ∷ [];
})
rushed_costs = holds_by_test many doubled rushed _ 18 refl (omega arith) (record { energy = refl; times = refl }) refl

-- and the plan 18:
pub calm_costs : HoldsAll many doubled calm (record {
  energy = of_whole 18;
  times = of_whole 0 ∷ of_whole 18 ∷ of_whole 0 ∷ of_whole 0 ∷ of_whole 0 ∷ of_whole 0 ∷ of_whole 0 ∷ [];
})
calm_costs = holds_by_test many doubled calm _ 1 refl (omega arith) (record { energy = refl; times = refl }) refl

-- more than 8 times 2 times 18 and 1 for each unit of work, and than 17 times 18.
rushed_too_much : (IsAtMostTimesAnd (over (8 * 2) 1) 18 (quotient_of (of_whole 352)) (quotient_of (of_whole 18)) → ⊥)
    × (IsAtMostTimesAnd (over 17 1) 0 (quotient_of (of_whole 352)) (quotient_of (of_whole 18)) → ⊥)
rushed_too_much = (refuted (at_most (over (8 * 2) 1) 18 (over 352 1) (over 18 1)) refl, refuted (at_most (over 17 1) 0 (over 352 1) (over 18 1)) refl)
