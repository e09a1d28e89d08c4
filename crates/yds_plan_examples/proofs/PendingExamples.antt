-- Optimal Available beside the plan of what is pending, tried on two jobs, of which the second is released later: as the first is pending alone, and
-- as both are.
use Rattle.yds_model.proofs.Common.{◌≡◌, ◌*◌, ◌-◌, ℕ, zero, suc, List, [], ◌∷◌, refl, ap, arith, All, Contains, Covers, stretches, slots_in, slot_at, WholeSlot, optimal_available, IsRunAt, IsOptimalAvailableRun, Job, Fraction, of_whole, WrittenSlot, slots_at, Piece, Level, level_at, IsPlan, div_up, units_asked}
use Rattle.yds_plan_laws.specs.PendingLaws.{what_is_pending}
use Rattle.yds_plan_laws.proofs.Pending.{optimal_available_goes_by_the_plan, the_first_level_lasts, optimal_available_runs_as_planned}
use Rattle.yds_examples.proofs.Policies.{available_jobs, available_slots, available_refused, fine_slots, fine_scale, fine_accepted}
use Rattle.yds_examples.proofs.Tests.{proved}
use Rattle.yds_examples.proofs.TestedSchedules.{run_at}
use Rattle.yds_examples.proofs.TestedPlans.{proper_by_test, served_by_test, plan_by_test}
use Rattle.yds_plan_examples.proofs.LeastExamples.{job, slot, level}

abbrev from_to : ℕ → ℕ → Piece
from_to from to = record { from = from; to = to }

-- # One pending job, rounded up

-- At 0 the first job is pending alone, with all its work. Its plan runs it at 2/3,
abbrev first_pending : List Job
first_pending = what_is_pending available_jobs 1 (slots_at 1 available_slots) (from_to 0 1)

one_alone : first_pending ≡ job 0 3 2 ∷ []
one_alone = refl

abbrev first_levels : List Level
first_levels = level 2 3 0 3 (0 ∷ []) ∷ []

first_plan : IsPlan first_pending (slot 0 0 3 2 ∷ []) first_levels
first_plan = plan_by_test first_pending (slot 0 0 3 2 ∷ []) first_levels (proper_by_test first_pending (slot 0 0 3 2 ∷ []) first_levels refl refl refl)
    (served_by_test first_pending (slot 0 0 3 2 ∷ []) 1 refl refl) refl

-- so on the grid 1 a unit is asked for, and on the grid 3 two.
one_unit : units_asked available_jobs 1 1 (slots_at 1 available_slots) (from_to 0 1) ≡ 1
one_unit = optimal_available_goes_by_the_plan available_jobs 1 1 (slots_at 1 available_slots) (from_to 0 1) (slot 0 0 3 2 ∷ []) first_levels first_plan

two_units : units_asked available_jobs 3 1 (slots_at 1 available_slots) (from_to 0 1) ≡ 2
two_units = optimal_available_goes_by_the_plan available_jobs 3 1 (slots_at 1 available_slots) (from_to 0 1) (slot 0 0 3 2 ∷ []) first_levels first_plan

-- # Two pending jobs

-- At 1, in parts of 42, the first job has 56 left and the second 42.
abbrev both_pending : List Job
both_pending = what_is_pending available_jobs 42 (slots_at 42 fine_slots) (from_to 1 2)

both_left : both_pending ≡ job 1 3 56 ∷ job 1 2 42 ∷ []
both_left = refl

-- Their plan has one level, of 98 in 2, with the second job first.
abbrev middle : Fraction
middle = record { whole = 1; num = 42; den = 49 }

abbrev both_slots : List WrittenSlot
both_slots =
    record { job = 1; from = of_whole 1; to = middle; work = of_whole 42 } ∷ record { job = 0; from = middle; to = of_whole 2; work = of_whole 7 }
    ∷ slot 0 2 3 49 ∷ []

abbrev both_levels : List Level
both_levels = level 98 2 1 3 (0 ∷ 1 ∷ []) ∷ []

both_plan : IsPlan both_pending both_slots both_levels
both_plan = plan_by_test both_pending both_slots both_levels (proper_by_test both_pending both_slots both_levels refl refl refl)
    (served_by_test both_pending both_slots 49 refl refl) refl

-- That is 49 parts of 42 in a unit of time, so on the grid 6 seven units are asked for.
seven_units : units_asked available_jobs 6 42 (slots_at 42 fine_slots) (from_to 1 2) ≡ 7
seven_units = optimal_available_goes_by_the_plan available_jobs 6 42 (slots_at 42 fine_slots) (from_to 1 2) both_slots both_levels both_plan

-- # The stretch, and a run that never rounded

-- That level has the time 1,
lasts : Covers (level_at both_levels 0).pieces 1
lasts = the_first_level_lasts available_jobs 42 (slots_at 42 fine_slots) (from_to 1 2) both_slots both_levels 1 (1, omega arith, refl) both_plan (omega arith) (omega arith) (omega arith)

-- and each slot of the stretch its speed: the second job's takes 36 parts of 42, and does all its work.
runs_so : All (λ slot. slot.work * (42 * 2) ≡ 98 * (slot.to - slot.from)) (slots_in 42 (from_to 1 2) (slots_at 42 fine_slots))
runs_so = optimal_available_runs_as_planned available_jobs 6 42 fine_slots both_slots (from_to 1 2) both_levels (omega arith) fine_accepted fine_scale (1, omega arith, refl) both_plan

that_slot : 42 * (42 * 2) ≡ 98 * 36
that_slot = runs_so 0 (slot_at (slots_at 42 fine_slots) 1) (omega arith)

-- # Near misses

-- The plan of all jobs runs at 1 from 0 on, as it knows the second one: three units on the grid 3, and two are asked for.
abbrev all_levels : List Level
all_levels = level 3 3 0 3 (0 ∷ 1 ∷ []) ∷ []

all_plan : IsPlan available_jobs available_slots all_levels
all_plan = plan_by_test available_jobs available_slots all_levels (proper_by_test available_jobs available_slots all_levels refl refl refl)
    (served_by_test available_jobs available_slots 1 refl refl) refl

no_hindsight : units_asked available_jobs 3 1 (slots_at 1 available_slots) (from_to 0 1)
    ≡ div_up (3 * (level_at all_levels 0).work * (1 - 0)) (1 * (level_at all_levels 0).length) → ⊥
no_hindsight same = absurd (omega (arith, same, two_units))

-- A level that serves the pending job in a third of its window is no plan's: six units.
abbrev hasty_levels : List Level
hasty_levels = level 2 1 0 1 (0 ∷ []) ∷ []

no_hasty_level : units_asked available_jobs 3 1 (slots_at 1 available_slots) (from_to 0 1)
    ≡ div_up (3 * (level_at hasty_levels 0).work * (1 - 0)) (1 * (level_at hasty_levels 0).length) → ⊥
no_hasty_level same = absurd (omega (arith, same, two_units))

-- Between windows nothing is pending, and the plan of that has no level, so none has the stretch.
abbrev distant : List Job
distant = job 0 1 1 ∷ job 2 3 1 ∷ []

abbrev distant_slots : List WholeSlot
distant_slots = slots_at 1 (slot 0 0 1 1 ∷ slot 1 2 3 1 ∷ [])

none_pending : what_is_pending distant 1 distant_slots (from_to 1 2) ≡ []
none_pending = refl

none_lasts : Covers (level_at [] 0).pieces 1 → ⊥
none_lasts (k, piece, within, is, holds) = absurd (omega (arith, within))

-- Time that goes on behind an event point is no stretch: the level ends at 3.
goes_on : Contains (stretches available_jobs) (from_to 1 4) → ⊥
goes_on (zero, within, is) = absurd (omega (arith, ap (λ (one : Piece). one.from) is))
goes_on (suc zero, within, is) = absurd (omega (arith, ap (λ (one : Piece). one.to) is))
goes_on (suc (suc zero), within, is) = absurd (omega (arith, ap (λ (one : Piece). one.from) is))
goes_on (suc (suc (suc k)), within, is) = absurd (omega (arith, within))

ends : Covers (level_at both_levels 0).pieces 3 → ⊥
ends (zero, piece, within, is, holds) = absurd (omega (arith, holds.1, ap (λ (one : Piece). one.to) is))
ends (suc k, piece, within, is, holds) = absurd (omega (arith, within))

-- A run that rounded is faster than the plan: on the grid 1 a unit from 0 to 1, and not two thirds.
rounded_run : IsRunAt available_jobs 1 1 (optimal_available available_jobs 1 1 (slots_at 1 available_slots)) (slots_at 1 available_slots)
rounded_run = proved (run_at available_jobs 1 1 (optimal_available available_jobs 1 1 (slots_at 1 available_slots)) (slots_at 1 available_slots)) refl

not_exact : IsOptimalAvailableRun available_jobs 1 0 available_slots → ⊥
not_exact = available_refused

rounded_faster : 1 * (1 * 3) ≡ 2 * (1 - 0) → ⊥
rounded_faster same = absurd (omega (arith, same))
