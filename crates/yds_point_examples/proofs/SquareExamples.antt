-- A plan rounded to points of the square: a job of work 4 from 0 to 3 reaches the law's factor. And near misses: a level that is slower than the slowest
-- point, a ratio that isn't the points', points that aren't on the square, slots that are no plan, and another energy.
use Rattle.yds_model.proofs.Common.{◌≡◌, ℕ, ◌*◌, ◌^◌, ◌≤◌, List, [], ◌∷◌, ◌++◌, length, ap, refl, arith, nat_tests, Job, of_whole, of_parts, IsSameQuotient, WrittenSlot, AtEachScale, slots_at, IsFeasible, Level, IsPlan, Point, point_at, hull_of, stretches, SplitsStretch, RoundsStretches, IsEnergyOf, IsRounding, All}
use Rattle.yds_energy.proofs.OneEnergy.{energy_is_one}
use Rattle.yds_examples.proofs.Tests.{proved, refuted}
use Rattle.yds_examples.proofs.TestedSchedules.{feasible_by_test, not_feasible_by_test}
use Rattle.yds_examples.proofs.TestedPlans.{proper_by_test, served_by_test, plan_by_test}
use Rattle.yds_examples.proofs.TestedRounding.{energy_by_test, slow_enough, splits_by_test, rounds_next}
use Rattle.yds_point_laws.specs.PowerPoints.{power_points, RiseWithin, ArePowerPoints, IsAtMostTimesAnd, quotient_of, power_spent}
use Rattle.yds_point_laws.proofs.Squares.{squares_cost_at_most}
use Rattle.yds_point_examples.proofs.Costs.{job, slot, level, over, at_most}
use Rattle.yds_point_examples.proofs.TwoJobs.{near, near_points}
use Rattle.yds_point_examples.proofs.NearMisses.{slow, slow_slot, hundred}

-- a job of work 4, at 4/3 throughout
abbrev jobs : List Job
jobs = job 0 3 4 ∷ []

abbrev planned : List WrittenSlot
planned = slot 0 (of_whole 0) (of_whole 3) (of_whole 4) ∷ []

abbrev its_level : Level
its_level = level 4 3 0 3 (0 ∷ [])

plan : IsPlan jobs planned (its_level ∷ [])
plan = plan_by_test jobs planned (its_level ∷ []) (proper_by_test jobs planned (its_level ∷ []) refl refl refl) (served_by_test jobs planned 1 refl refl) refl

-- rounded to the squares of 1 and 2: at 2 until 1, and then at 1
abbrev written : List WrittenSlot
written = slot 0 (of_whole 0) (of_whole 1) (of_whole 2) ∷ slot 0 (of_whole 1) (of_whole 3) (of_whole 2) ∷ []

split : SplitsStretch (hull_of near) its_level (record { from = 0; to = 3 }) planned written
split =
    splits_by_test 1 1 1 (hull_of near) its_level (record { from = 0; to = 3 }) planned (slot 0 (of_whole 0) (of_whole 1) (of_whole 2) ∷ [])
    (slot 0 (of_whole 1) (of_whole 3) (of_whole 2) ∷ []) refl refl refl (λ job. grind (arith, nat_tests))

rounds : RoundsStretches (hull_of near) (its_level ∷ []) (stretches jobs) planned written
rounds = rounds_next (its_level ∷ []) [] [] [] (0, omega arith, refl) refl split (refl, refl)

energy : IsEnergyOf jobs near written (of_whole 6)
energy = energy_by_test jobs near (2 ∷ 1 ∷ []) written (of_whole 6) 1 refl (omega arith) refl refl

rounding : IsRounding jobs near planned (its_level ∷ []) written (of_whole 6)
rounding = grind (arith, energy, proved, rounds, slow_enough)

-- By the square the plan spends 16/3,
plan_spends : IsSameQuotient (power_spent 2 1 (slots_at 1 planned)) (over 16 3)
plan_spends = refl

-- no level is slower than 1,
fast : All (λ level. 1 * level.length ≤ level.work) (its_level ∷ [])
fast k other within = grind arith

-- and 6 is at most (2+1)^2 / (4*2*1) times 16/3: just that.
by_law : AtEachScale planned (λ scale whole. IsAtMostTimesAnd (over 9 8) 0 (quotient_of (of_whole 6)) (power_spent 2 scale whole))
by_law = squares_cost_at_most 2 1 1 jobs near planned (its_level ∷ []) written (of_whole 6) near_points plan fast rounding

reached : IsAtMostTimesAnd (over 8999 8000) 0 (quotient_of (of_whole 6)) (power_spent 2 1 (slots_at 1 planned)) → ⊥
reached = refuted (at_most (over 8999 8000) 0 (over 6 1) (power_spent 2 1 (slots_at 1 planned))) refl

-- # A ratio that isn't theirs

-- 1 isn't: 6 is more than 4/4 times 16/3
next_within : (faster : List ℕ) → near ≡ power_points 2 (1 ∷ faster) → RiseWithin 1 1 (1 ∷ faster) → ⊥
next_within [] are within = absurd (omega (arith, ap (λ (points : List Point). length points) are))
next_within (next ∷ faster) are within = absurd (omega (arith, within.0, within.1))

not_one : (ArePowerPoints 2 1 1 1 near → ⊥) × (IsAtMostTimesAnd (over 4 4) 0 (quotient_of (of_whole 6)) (power_spent 2 1 (slots_at 1 planned)) → ⊥)
not_one = (λ is. next_within is.faster is.points_are is.within, refuted (at_most (over 4 4) 0 (over 6 1) (power_spent 2 1 (slots_at 1 planned))) refl)

-- # Points that aren't on the square

-- with a power of 5 at the speed 2 the same slots cost 7, which is more
abbrev steep : List Point
steep = record { speed = 0; power = 0 } ∷ record { speed = 1; power = 1 } ∷ record { speed = 2; power = 5 } ∷ []

steep_energy : IsEnergyOf jobs steep written (of_whole 7)
steep_energy = energy_by_test jobs steep (2 ∷ 1 ∷ []) written (of_whole 7) 1 refl (omega arith) refl refl

steep_rounds : RoundsStretches (hull_of steep) (its_level ∷ []) (stretches jobs) planned written
steep_rounds = rounds_next (its_level ∷ []) [] [] [] (0, omega arith, refl) refl
    (splits_by_test 1 1 1 (hull_of steep) its_level (record { from = 0; to = 3 }) planned (slot 0 (of_whole 0) (of_whole 1) (of_whole 2) ∷ [])
    (slot 0 (of_whole 1) (of_whole 3) (of_whole 2) ∷ []) refl refl refl (λ job. grind (arith, nat_tests))) (refl, refl)

steep_rounding : IsRounding jobs steep planned (its_level ∷ []) written (of_whole 7)
steep_rounding = grind (arith, steep_energy, proved, steep_rounds, slow_enough)

steep_third : (faster : List ℕ) → steep ≡ power_points 2 (1 ∷ faster) → ⊥
steep_third [] are = absurd (omega (arith, ap (λ (points : List Point). length points) are))
steep_third (next ∷ faster) are =
    let speed : 2 ≡ next = ap (λ (points : List Point). (point_at points 2).speed) are in
    let power : 5 ≡ next ^ 2 = ap (λ (points : List Point). (point_at points 2).power) are in
    absurd (omega (arith, power, ap (λ (n : ℕ). n ^ 2) speed))

not_steep : (ArePowerPoints 2 2 1 1 steep → ⊥) × (IsAtMostTimesAnd (over 9 8) 0 (quotient_of (of_whole 7)) (power_spent 2 1 (slots_at 1 planned)) → ⊥)
not_steep = (λ is. steep_third is.faster is.points_are, refuted (at_most (over 9 8) 0 (over 7 1) (power_spent 2 1 (slots_at 1 planned))) refl)

-- # Another energy

-- 7 isn't the energy of the slots on the squares, and the law doesn't hold of it
not_its_energy : IsEnergyOf jobs near written (of_whole 7) → ⊥
not_its_energy other = let same = energy_is_one jobs near written (of_whole 6) (of_whole 7) (omega arith, (omega arith, tt)) (feasible_by_test jobs written 1 refl refl) energy other in absurd (omega (arith, same))

-- # A level that is slower than the slowest point

-- of work 2 in 4 units of time, rounded to the point 100 10000: a fiftieth of a unit of time at 100
abbrev slow_level : Level
slow_level = level 2 4 0 4 (0 ∷ [])

slow_plan : IsPlan slow slow_slot (slow_level ∷ [])
slow_plan = plan_by_test slow slow_slot (slow_level ∷ []) (proper_by_test slow slow_slot (slow_level ∷ []) refl refl refl) (served_by_test slow slow_slot 1 refl refl) refl

abbrev slow_written : List WrittenSlot
slow_written = slot 0 (of_whole 0) (of_parts 4 200) (of_whole 2) ∷ []

slow_rounds : RoundsStretches (hull_of hundred) (slow_level ∷ []) (stretches slow) slow_slot slow_written
slow_rounds = rounds_next (slow_level ∷ []) [] [] [] (0, omega arith, refl) refl
    (splits_by_test 200 4 0 (hull_of hundred) slow_level (record { from = 0; to = 4 }) slow_slot slow_written [] refl refl refl (λ job. grind (arith, nat_tests))) (refl, refl)

slow_energy : IsEnergyOf slow hundred slow_written (of_whole 200)
slow_energy = energy_by_test slow hundred (1 ∷ []) slow_written (of_whole 200) 200 refl (omega arith) refl refl

slow_rounding : IsRounding slow hundred slow_slot (slow_level ∷ []) slow_written (of_whole 200)
slow_rounding = grind (arith, slow_energy, proved, slow_rounds, slow_enough)

-- costs 200 beside the 1 that the plan spends
hundred_points : ArePowerPoints 2 1 1 100 hundred
hundred_points = record { faster = []; points_are = refl; not_idle = omega arith; within = tt; some = omega arith; ratio = omega arith }

too_slow : (All (λ level. 100 * level.length ≤ level.work) (slow_level ∷ []) → ⊥) × (IsAtMostTimesAnd (over 4 4) 0 (quotient_of (of_whole 200)) (power_spent 2 1 (slots_at 1 slow_slot)) → ⊥)
too_slow = (λ all. absurd (omega (arith, all 0 slow_level (omega arith))), refuted (at_most (over 4 4) 0 (over 200 1) (power_spent 2 1 (slots_at 1 slow_slot))) refl)

-- # No plan

-- two jobs of work 2 from 0 to 2, both at the speed 1 all the time
abbrev twins : List Job
twins = job 0 2 2 ∷ job 0 2 2 ∷ []

abbrev together : List WrittenSlot
together = slot 0 (of_whole 0) (of_whole 2) (of_whole 2) ∷ slot 1 (of_whole 0) (of_whole 2) (of_whole 2) ∷ []

not_feasible : IsFeasible twins together → ⊥
not_feasible = not_feasible_by_test twins together 1 refl refl

-- They would be rounded to the squares of 1 and 3: at 3 until 1, and then at 1,
abbrev one_and_three : List Point
one_and_three = power_points 2 (1 ∷ 3 ∷ [])

abbrev twin_level : Level
twin_level = level 4 2 0 2 (0 ∷ 1 ∷ [])

abbrev twins_fast : List WrittenSlot
twins_fast = slot 0 (of_whole 0) (of_parts 4 6) (of_whole 2) ∷ slot 1 (of_parts 4 6) (of_whole 1) (of_whole 1) ∷ []

abbrev twins_slow : List WrittenSlot
twins_slow = slot 1 (of_whole 1) (of_whole 2) (of_whole 1) ∷ []

twins_rounds : RoundsStretches (hull_of one_and_three) (twin_level ∷ []) (stretches twins) together (twins_fast ++ twins_slow)
twins_rounds = rounds_next (twin_level ∷ []) [] [] [] (0, omega arith, refl) refl
    (splits_by_test 6 6 1 (hull_of one_and_three) twin_level (record { from = 0; to = 2 }) together twins_fast twins_slow refl refl refl (λ job. grind (arith, nat_tests))) (refl, refl)

twins_energy : IsEnergyOf twins one_and_three (twins_fast ++ twins_slow) (of_whole 10)
twins_energy = energy_by_test twins one_and_three (2 ∷ 2 ∷ 1 ∷ []) (twins_fast ++ twins_slow) (of_whole 10) 6 refl (omega arith) refl refl

twins_rounding : IsRounding twins one_and_three together (twin_level ∷ []) (twins_fast ++ twins_slow) (of_whole 10)
twins_rounding = grind (arith, twins_energy, proved, twins_rounds, slow_enough)

-- which costs 10, and is more than (3+1)^2 / (4*3*1) times the 4 that they spend
twins_too_much : IsSameQuotient (power_spent 2 1 (slots_at 1 together)) (over 4 1)
    × (IsAtMostTimesAnd (over 16 12) 0 (quotient_of (of_whole 10)) (power_spent 2 1 (slots_at 1 together)) → ⊥)
twins_too_much = (refl, refuted (at_most (over 16 12) 0 (over 10 1) (power_spent 2 1 (slots_at 1 together))) refl)
