-- How many levels, pieces and slots plans have at most, tried on plans that have as many, and near misses.
use Rattle.yds_model.proofs.Common.{◌≡◌, ◌-◌, ◌*◌, ◌≤◌, ◌==◌, ℕ, List, [], ◌∷◌, ◌++◌, length, refl, arith, nat_lt, nat_tests, count_by, Job, Fraction, of_whole, of_parts, WrittenSlot, IsLeast, Piece, Level, all_pieces, IsPlan, Point, hull_of, stretches, SplitsStretch, RoundsStretches, IsEnergyOf, IsRounding}
use Rattle.yds_plan_laws.proofs.Certified.{levels_certify_the_least}
use Rattle.yds_plan_laws.proofs.FewLevels.{levels_are_few}
use Rattle.yds_plan_laws.proofs.FewPieces.{pieces_are_few}
use Rattle.yds_plan_laws.proofs.FewSlots.{plan_slots_are_few}
use Rattle.yds_plan_laws.proofs.FewRounded.{rounded_slots_are_few}
use Rattle.yds_examples.proofs.Tests.{proved}
use Rattle.yds_examples.proofs.TestedPlans.{proper_by_test, served_by_test, plan_by_test}
use Rattle.yds_examples.proofs.TestedRounding.{energy_by_test, slow_enough, splits_by_test, rounds_next}

abbrev job : ℕ → ℕ → ℕ → Job
job release deadline work = record { release = release; deadline = deadline; work = work }

abbrev slot : ℕ → Fraction → Fraction → Fraction → WrittenSlot
slot job from to work = record { job = job; from = from; to = to; work = work }

abbrev piece : ℕ → ℕ → Piece
piece from to = record { from = from; to = to }

-- # As many levels as jobs with work, and as many pieces as there can be

-- A slow job around a fast one, and one of no work:
abbrev nested : List Job
nested = job 0 4 2 ∷ job 1 3 4 ∷ job 0 4 0 ∷ []

abbrev nested_slots : List WrittenSlot
nested_slots = slot 0 (of_whole 0) (of_whole 1) (of_whole 1) ∷ slot 1 (of_whole 1) (of_whole 3) (of_whole 4) ∷ slot 0 (of_whole 3) (of_whole 4) (of_whole 1) ∷ []

abbrev nested_levels : List Level
nested_levels =
    record { work = 4; length = 2; pieces = piece 1 3 ∷ []; members = 1 ∷ [] }
    ∷ record { work = 2; length = 2; pieces = piece 0 1 ∷ piece 3 4 ∷ []; members = 0 ∷ [] } ∷ []

nested_plan : IsPlan nested nested_slots nested_levels
nested_plan = plan_by_test nested nested_slots nested_levels (proper_by_test nested nested_slots nested_levels refl refl refl)
    (served_by_test nested nested_slots 1 refl refl) refl

-- two levels, for the two jobs with work,
as_many_levels : (length nested_levels ≡ 2) × (count_by (λ job. nat_lt 0 job.work) nested ≡ 2)
as_many_levels = (refl, refl)

no_more_levels : length nested_levels ≤ 2
no_more_levels = levels_are_few nested nested_slots nested_levels nested_plan

-- and three pieces, which is one less than twice two. The third job would allow two more.
as_many_pieces : length (all_pieces nested_levels) ≡ 2 * 2 - 1
as_many_pieces = refl

no_more_pieces : length (all_pieces nested_levels) ≤ 2 * 3 - 1
no_more_pieces = pieces_are_few nested nested_slots nested_levels nested_plan

-- # As many slots

-- Two jobs at the speed 3/2. In the second one's window both run.
abbrev two : List Job
two = job 0 4 5 ∷ job 1 3 1 ∷ []

abbrev half : ℕ → Fraction
half parts = of_parts parts 2

abbrev two_slots : List WrittenSlot
two_slots =
    slot 0 (of_whole 0) (of_whole 1) (half 3) ∷ slot 1 (of_whole 1) (of_parts 5 3) (of_whole 1) ∷ slot 0 (of_parts 5 3) (of_whole 3) (of_whole 2)
    ∷ slot 0 (of_whole 3) (of_whole 4) (half 3) ∷ []

abbrev level : Level
level = record { work = 6; length = 4; pieces = piece 0 4 ∷ []; members = 0 ∷ 1 ∷ [] }

two_plan : IsPlan two two_slots (level ∷ [])
two_plan = plan_by_test two two_slots (level ∷ []) (proper_by_test two two_slots (level ∷ []) refl refl refl) (served_by_test two two_slots 6 refl refl) refl

as_many_slots : length two_slots ≡ 3 * 2 - 2
as_many_slots = refl

no_more_slots : length two_slots ≤ 3 * 2 - 2
no_more_slots = plan_slots_are_few two two_slots (level ∷ []) two_plan

-- Three jobs have seven, and five of them are of one job: it isn't three for each.
abbrev three : List Job
three = job 0 5 8 ∷ job 1 2 1 ∷ job 3 4 1 ∷ []

abbrev three_slots : List WrittenSlot
three_slots =
    slot 0 (of_whole 0) (of_whole 1) (of_whole 2) ∷ slot 1 (of_whole 1) (half 3) (of_whole 1) ∷ slot 0 (half 3) (of_whole 2) (of_whole 1)
    ∷ slot 0 (of_whole 2) (of_whole 3) (of_whole 2) ∷ slot 2 (of_whole 3) (half 7) (of_whole 1) ∷ slot 0 (half 7) (of_whole 4) (of_whole 1)
    ∷ slot 0 (of_whole 4) (of_whole 5) (of_whole 2) ∷ []

abbrev three_levels : List Level
three_levels = record { work = 10; length = 5; pieces = piece 0 5 ∷ []; members = 0 ∷ 1 ∷ 2 ∷ [] } ∷ []

three_plan : IsPlan three three_slots three_levels
three_plan = plan_by_test three three_slots three_levels (proper_by_test three three_slots three_levels refl refl refl)
    (served_by_test three three_slots 2 refl refl) refl

five_of_one : (count_by (λ (slot : WrittenSlot). slot.job == 0) three_slots ≡ 5) × (length three_slots ≡ 3 * 3 - 2)
five_of_one = (refl, refl)

-- # As many rounded

-- On points of the speeds 1 and 2, each stretch of the two jobs runs half the time at each.
abbrev points : List Point
points = record { speed = 0; power = 0 } ∷ record { speed = 1; power = 1 } ∷ record { speed = 2; power = 3 } ∷ []

-- an end at the faster point is over 4
abbrev fourth : ℕ → ℕ → Fraction
fourth whole num = record { whole = whole; num = num; den = 4 }

abbrev first_fast : List WrittenSlot
first_fast = slot 0 (of_whole 0) (fourth 0 2) (of_whole 1) ∷ []

abbrev first_slow : List WrittenSlot
first_slow = slot 0 (half 1) (of_whole 1) (half 1) ∷ []

abbrev second_fast : List WrittenSlot
second_fast = slot 1 (of_whole 1) (fourth 1 2) (of_whole 1) ∷ slot 0 (fourth 1 2) (of_whole 2) (of_whole 1) ∷ []

abbrev second_slow : List WrittenSlot
second_slow = slot 0 (of_whole 2) (of_whole 3) (of_whole 1) ∷ []

abbrev third_fast : List WrittenSlot
third_fast = slot 0 (of_whole 3) (fourth 3 2) (of_whole 1) ∷ []

abbrev third_slow : List WrittenSlot
third_slow = slot 0 (half 7) (of_whole 4) (half 1) ∷ []

-- the plan's slots of the three stretches
abbrev first : List WrittenSlot
first = slot 0 (of_whole 0) (of_whole 1) (half 3) ∷ []

abbrev second : List WrittenSlot
second = slot 1 (of_whole 1) (of_parts 5 3) (of_whole 1) ∷ slot 0 (of_parts 5 3) (of_whole 3) (of_whole 2) ∷ []

abbrev third : List WrittenSlot
third = slot 0 (of_whole 3) (of_whole 4) (half 3) ∷ []

first_split : SplitsStretch (hull_of points) level (piece 0 1) first (first_fast ++ first_slow)
first_split = splits_by_test 12 6 1 (hull_of points) level (piece 0 1) first first_fast first_slow refl refl refl (λ job. grind (arith, nat_tests))

second_split : SplitsStretch (hull_of points) level (piece 1 3) second (second_fast ++ second_slow)
second_split = splits_by_test 12 12 1 (hull_of points) level (piece 1 3) second second_fast second_slow refl refl refl (λ job. grind (arith, nat_tests))

third_split : SplitsStretch (hull_of points) level (piece 3 4) third (third_fast ++ third_slow)
third_split = splits_by_test 12 6 1 (hull_of points) level (piece 3 4) third third_fast third_slow refl refl refl (λ job. grind (arith, nat_tests))

abbrev written : List WrittenSlot
written = first_fast ++ first_slow ++ second_fast ++ second_slow ++ third_fast ++ third_slow

rounds : RoundsStretches (hull_of points) (level ∷ []) (stretches two) two_slots written
rounds =
    rounds_next (level ∷ []) (piece 1 3 ∷ piece 3 4 ∷ []) (second ++ third) (second_fast ++ second_slow ++ third_fast ++ third_slow) (0, omega arith, refl) refl first_split
    (rounds_next (level ∷ []) (piece 3 4 ∷ []) third (third_fast ++ third_slow) (0, omega arith, refl) refl second_split
    (rounds_next (level ∷ []) [] [] [] (0, omega arith, refl) refl third_split (refl, refl)))

energy : IsEnergyOf two points written (of_whole 8)
energy = energy_by_test two points (2 ∷ 1 ∷ 2 ∷ 2 ∷ 1 ∷ 2 ∷ 1 ∷ []) written (of_whole 8) 4 refl (omega arith) refl refl

rounding : IsRounding two points two_slots (level ∷ []) written (of_whole 8)
rounding = grind (arith, energy, proved, rounds, slow_enough)

as_many_rounded : length written ≡ 5 * 2 - 3
as_many_rounded = refl

no_more_rounded : length written ≤ 5 * 2 - 3
no_more_rounded = rounded_slots_are_few two points two_slots written (level ∷ []) (of_whole 8) two_plan rounding

-- # Slots that are no plan's

-- One job in two slots, with a cut at no event point: they are least, and more than a plan of one job has.
abbrev one : List Job
one = job 0 2 2 ∷ []

abbrev one_slots : List WrittenSlot
one_slots = slot 0 (of_whole 0) (of_whole 2) (of_whole 2) ∷ []

abbrev one_levels : List Level
one_levels = record { work = 2; length = 2; pieces = piece 0 2 ∷ []; members = 0 ∷ [] } ∷ []

abbrev cut : List WrittenSlot
cut = slot 0 (of_whole 0) (of_whole 1) (of_whole 1) ∷ slot 0 (of_whole 1) (of_whole 2) (of_whole 1) ∷ []

cut_least : IsLeast one cut
cut_least = (levels_certify_the_least one one_slots cut one_levels (plan_by_test one one_slots one_levels (proper_by_test one one_slots one_levels refl refl refl)
    (served_by_test one one_slots 1 refl refl) refl)).0 (proper_by_test one cut one_levels refl refl refl)

too_many : length cut ≤ 3 * 1 - 2 → ⊥
too_many few = absurd (omega (arith, few))

no_plan : (levels : List Level) → IsPlan one cut levels → ⊥
no_plan levels plan = too_many (plan_slots_are_few one cut levels plan)
