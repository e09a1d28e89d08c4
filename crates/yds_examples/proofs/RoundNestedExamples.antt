-- Rounding, tried on the plan of two nested jobs: a from 0 to 10 with work 10, b from 4 to 6 with work 6, on the points of the speeds
-- 0, 1, 2 and 4, whose powers are 0, 1, 3 and 10. Each level's speed lies between two points, and all numbers are whole.
use Rattle.yds_model.proofs.Common.{◌≡◌, ℕ, ◌-◌, ◌*◌, List, [], ◌∷◌, refl, arith, Contains, nat_tests, Job, Fraction, of_whole, WrittenSlot, IsFeasible, Level, IsProper, Point, AreRising, hull_of, stretches, SplitsStretch, RoundsStretches, IsEnergyOf, IsRounding}
use Rattle.yds_energy.proofs.OneEnergy.{energy_is_one}
use Rattle.yds_examples.proofs.Tests.{proved, refuted, test_eq, test_any}
use Rattle.yds_examples.proofs.TestedSchedules.{is_scale, feasible_by_test}
use Rattle.yds_examples.proofs.TestedPlans.{proper_by_test}
use Rattle.yds_examples.proofs.TestedRounding.{energy_by_test, slow_enough, splits_by_test, rounds_next}

-- a and b
abbrev pub jobs : List Job
jobs = record { release = 0; deadline = 10; work = 10 } ∷ record { release = 4; deadline = 6; work = 6 } ∷ []

-- each point's speed and power
abbrev pub point : ℕ → ℕ → Point
point speed power = record { speed = speed; power = power }

-- the table, which is its own hull
abbrev pub points : List Point
points = point 0 0 ∷ point 1 1 ∷ point 2 3 ∷ point 4 10 ∷ []

-- since its slopes never fall
its_hull : hull_of points ≡ points
its_hull = refl

-- a slot of whole numbers
abbrev pub slot : ℕ → ℕ → ℕ → ℕ → WrittenSlot
slot job from to work = record { job = job; from = of_whole from; to = of_whole to; work = of_whole work }

-- the plan: b at the speed 3, and a at 5/4 before and after it
abbrev pub planned : List WrittenSlot
planned = slot 0 0 4 5 ∷ slot 1 4 6 6 ∷ slot 0 6 10 5 ∷ []

-- b's level
abbrev pub level_b : Level
level_b = record { work = 6; length = 2; pieces = record { from = 4; to = 6 } ∷ []; members = 1 ∷ [] }

-- a's level
abbrev pub level_a : Level
level_a = record { work = 10; length = 8; pieces = record { from = 0; to = 4 } ∷ record { from = 6; to = 10 } ∷ []; members = 0 ∷ [] }

-- fastest first
abbrev pub levels : List Level
levels = level_b ∷ level_a ∷ []

-- the levels are proper for the plan's slots
pub planned_proper : IsProper jobs planned levels
planned_proper = proper_by_test jobs planned levels refl refl refl

-- Rounded: a first at the speed 2 and then at 1, in both its stretches, and b first at 4 and then at 2
abbrev pub written : List WrittenSlot
written = slot 0 0 1 2 ∷ slot 0 1 4 3 ∷ slot 1 4 5 4 ∷ slot 1 5 6 2 ∷ slot 0 6 7 2 ∷ slot 0 7 10 3 ∷ []

-- each job still gets its work in its window
pub written_feasible : IsFeasible jobs written
written_feasible = feasible_by_test jobs written 1 refl refl

-- a runs for one of the four time units at 2, since 5/4 lies a quarter of the way from 1 to 2,
first_split : SplitsStretch (hull_of points) level_a (record { from = 0; to = 4 }) (slot 0 0 4 5 ∷ []) (slot 0 0 1 2 ∷ slot 0 1 4 3 ∷ [])
first_split = splits_by_test 1 1 1 (hull_of points) level_a (record { from = 0; to = 4 }) (slot 0 0 4 5 ∷ []) (slot 0 0 1 2 ∷ []) (slot 0 1 4 3 ∷ []) refl refl refl (λ job. grind (arith, nat_tests))

-- b for one of its two at 4, since 3 lies half way from 2 to 4,
second_split : SplitsStretch (hull_of points) level_b (record { from = 4; to = 6 }) (slot 1 4 6 6 ∷ []) (slot 1 4 5 4 ∷ slot 1 5 6 2 ∷ [])
second_split = splits_by_test 1 1 2 (hull_of points) level_b (record { from = 4; to = 6 }) (slot 1 4 6 6 ∷ []) (slot 1 4 5 4 ∷ []) (slot 1 5 6 2 ∷ []) refl refl refl (λ job. grind (arith, nat_tests))

-- and a again as before
third_split : SplitsStretch (hull_of points) level_a (record { from = 6; to = 10 }) (slot 0 6 10 5 ∷ []) (slot 0 6 7 2 ∷ slot 0 7 10 3 ∷ [])
third_split = splits_by_test 1 1 1 (hull_of points) level_a (record { from = 6; to = 10 }) (slot 0 6 10 5 ∷ []) (slot 0 6 7 2 ∷ []) (slot 0 7 10 3 ∷ []) refl refl refl (λ job. grind (arith, nat_tests))

-- stretch by stretch
rounds : RoundsStretches (hull_of points) levels (stretches jobs) planned written
rounds =
    rounds_next levels (record { from = 4; to = 6 } ∷ record { from = 6; to = 10 } ∷ []) (slot 1 4 6 6 ∷ slot 0 6 10 5 ∷ [])
    (slot 1 4 5 4 ∷ slot 1 5 6 2 ∷ slot 0 6 7 2 ∷ slot 0 7 10 3 ∷ []) (1, omega arith, refl) refl first_split
    (rounds_next levels (record { from = 6; to = 10 } ∷ []) (slot 0 6 10 5 ∷ []) (slot 0 6 7 2 ∷ slot 0 7 10 3 ∷ []) (0, omega arith, refl) refl second_split
    (rounds_next levels [] [] [] (1, omega arith, refl) refl third_split (refl, refl)))

-- the energy is 25: 3 + 3 for a in each of its stretches, 10 + 3 for b
pub energy : IsEnergyOf jobs points written (of_whole 25)
energy = energy_by_test jobs points (2 ∷ 1 ∷ 3 ∷ 2 ∷ 2 ∷ 1 ∷ []) written (of_whole 25) 1 refl (omega arith) refl refl

-- So this is the rounding of the plan.
pub rounding : IsRounding jobs points planned levels written (of_whole 25)
rounding = grind (arith, energy, proved, rounds, slow_enough)

-- the points rise
pub rising : AreRising points
rising = (omega arith, (omega arith, (omega arith, tt)))

-- The energy isn't 24.
other_energy : IsRounding jobs points planned levels written (of_whole 24) → ⊥
other_energy is = absurd (omega (arith, energy_is_one jobs points written (of_whole 25) (of_whole 24) rising written_feasible energy is.energy_of))

-- Written as 50/2 it is refused: the fraction isn't in lowest terms.
not_lowest : IsRounding jobs points planned levels written (record { whole = 24; num = 2; den = 2 }) → ⊥
not_lowest is = absurd (omega (arith, is.lowest.below_one))

-- Without the last point b's level is too fast.
too_fast : IsRounding jobs (point 0 0 ∷ point 1 1 ∷ point 2 3 ∷ []) planned levels written (of_whole 25) → ⊥
too_fast is = is.fast_enough 0 level_b (omega arith) (omega arith)

-- The plan's slots can't stay: no point does 5 units of work in 4 of time,
at_no_point : (point : Point) → Contains points point → 5 ≡ point.speed * (4 - 0) → ⊥
at_no_point point has at = refuted (test_any (λ (point : Point). test_eq 5 (point.speed * (4 - 0))) points) refl (has.0, point, has.1, has.2, at)

-- so they have no energy on the points
no_energy : (amount : Fraction) → IsEnergyOf jobs points planned amount → ⊥
no_energy amount is =
    let spends = (is.at_scales.holds 1 (proved (is_scale 1 planned) refl)).1.1 in
    at_no_point spends.0 spends.2 spends.3
