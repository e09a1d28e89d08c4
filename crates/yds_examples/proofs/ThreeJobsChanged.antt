-- Small changes of the plan of three jobs, each of which breaks one thing that is said of it.
use Rattle.yds_model.proofs.Common.{◌≡◌, ℕ, ◌*◌, List, [], ◌∷◌, ◌++◌, refl, arith, pos, ◌≤ℤ◌, ints, eq-zero_of_zero-dvd, job_at, of_whole, WrittenSlot, IsScale, slots_at, no_written_slot, IsFeasible, excess, IsLeast, IsConfined, Level, Forces, Explains, IsNotFaster, IsProper, IsPlan, Point, IsTable, IsConvex, interpolated_energy, Order, IsJudgement, HasWrittenSpeed}
use Rattle.yds_energy.specs.EnergyLaws.{IsCheapest}
use Rattle.yds_examples.proofs.Tests.{proved, refuted}
use Rattle.yds_examples.proofs.TestedSchedules.{is_scale, feasible_by_test, not_feasible_by_test, served_in_stretches}
use Rattle.yds_examples.proofs.TestedPlans.{pieces_stand, not_faster, window_covered, confined, written_speed, proper_by_test, is_judgement}
use Rattle.yds_examples.proofs.ThreeJobs.{jobs, slot, third, slots, thirds, feasible_at_each, piece, level_a, level_b, level_c, levels}

-- # Slots

-- a's first slot made longer by one: it isn't over when b's begins
overlapping_slots : IsFeasible jobs (slot 0 0 3 (of_whole 2) ∷ slot 1 2 4 (third 2 2) ∷ slot 2 4 6 (of_whole 6) ∷ slot 1 6 10 (third 5 1) ∷ slot 0 10 12 (of_whole 2) ∷ []) → ⊥
overlapping_slots = not_feasible_by_test jobs _ 3 refl refl

-- b's second slot with a unit of work more: b gets more than it wants
too_much_work : IsFeasible jobs (slot 0 0 2 (of_whole 2) ∷ slot 1 2 4 (third 3 2) ∷ slot 2 4 6 (of_whole 6) ∷ slot 1 6 10 (third 5 1) ∷ slot 0 10 12 (of_whole 2) ∷ []) → ⊥
too_much_work = not_feasible_by_test jobs _ 3 refl refl

-- c's slot begins before c is released
too_early : IsFeasible jobs (slot 0 0 2 (of_whole 2) ∷ slot 1 2 3 (third 2 2) ∷ slot 2 3 6 (of_whole 6) ∷ slot 1 6 10 (third 5 1) ∷ slot 0 10 12 (of_whole 2) ∷ []) → ⊥
too_early = not_feasible_by_test jobs _ 3 refl refl

-- All of a's work in its first slot: this is feasible,
abbrev hasty : List WrittenSlot
hasty = slot 0 0 2 (of_whole 4) ∷ slot 1 2 4 (third 2 2) ∷ slot 2 4 6 (of_whole 6) ∷ slot 1 6 10 (third 5 1) ∷ []

-- each job gets its work in its window,
hasty_feasible : IsFeasible jobs hasty
hasty_feasible = feasible_by_test jobs hasty 3 refl refl

-- but above the speed 1 it does 8 units, where the plan does 6,
hasty_excess : excess 1 1 (slots_at 3 hasty) ≡ 24
hasty_excess = refl

-- so it isn't least.
not_least : IsLeast jobs hasty → ⊥
not_least is = absurd (omega (arith, (is.holds 3 (proved (is_scale 3 hasty) refl)).least 1 1 (omega arith) (slots_at 3 slots) (feasible_at_each.holds 3 thirds)))

-- # What they cost

-- points whose power is the square of their speed
abbrev squares : List Point
squares = record { speed = 0; power = 0 } ∷ record { speed = 1; power = 1 } ∷ record { speed = 2; power = 4 } ∷ record { speed = 3; power = 9 } ∷ []

its_table : IsTable squares
its_table = record { some = omega arith; idle = refl; rising = (omega arith, (omega arith, (omega arith, tt))) }

-- their slopes never fall
its_slopes : IsConvex squares
its_slopes = (omega arith, (omega arith, tt))

-- the plan takes 34 units of energy, in thirds,
plan_energy : interpolated_energy jobs squares 3 (slots_at 3 slots) ≡ pos (34 * 3)
plan_energy = refl

-- and the slots in which a runs at the speed 2 take 38,
hasty_energy : interpolated_energy jobs squares 3 (slots_at 3 hasty) ≡ pos (38 * 3)
hasty_energy = refl

-- so these aren't cheapest.
not_cheapest : IsCheapest jobs hasty → ⊥
not_cheapest is =
    let more : pos (38 * 3) ≤ℤ pos (34 * 3) = is.at_most squares slots 3 its_table its_slopes feasible_at_each (proved (is_scale 3 (hasty ++ slots)) refl) in
    absurd (omega (arith, ints, more))

-- # What forces the excess

-- without a's level the certificate doesn't explain what is done above the speed 0
not_explained : Explains jobs slots (level_c ∷ level_b ∷ []) → ⊥
not_explained explains = absurd (omega (arith, ((explains.holds 3 thirds).forced 0 1 (omega arith)).exact))

-- above the speed 2, c twice would force as much, if it were two jobs
not_forced_twice : Forces jobs 3 2 1 (slots_at 3 slots) (2 ∷ 2 ∷ []) (piece 4 6 ∷ []) → ⊥
not_forced_twice forces = absurd (omega (arith, forces.different 2))

-- and b isn't confined to c's piece
not_confined : IsConfined (job_at jobs 1) (piece 4 6 ∷ []) → ⊥
not_confined = refuted (confined (job_at jobs 1) (piece 4 6 ∷ [])) refl

-- # Levels

-- the second and third level exchanged: the later one is faster
abbrev exchanged : List Level
exchanged = level_c ∷ level_a ∷ level_b ∷ []

-- b has 8 in 6 time units, and a before it 4 in 4
slower_first : IsNotFaster exchanged 2 → ⊥
slower_first = refuted (not_faster exchanged 2) refl

-- so the levels aren't proper,
not_in_order : IsProper jobs slots exchanged → ⊥
not_in_order proper = slower_first (proper.order 2 (omega arith))

-- and since all else is as it was, the judgement is that the third level is out of order
order_broken : IsJudgement jobs slots exchanged (Order 2)
order_broken = proved (is_judgement jobs slots exchanged (Order 2)) refl

-- b made a member of the first level besides: the work isn't its members'
not_its_members : IsProper jobs slots (record { work = 6; length = 2; pieces = piece 4 6 ∷ []; members = 2 ∷ 1 ∷ [] } ∷ level_b ∷ level_a ∷ []) → ⊥
not_its_members proper = absurd (omega (arith, (proper.sums 0 (omega arith)).work))

-- b's second piece cut by one: the length isn't its pieces'
not_its_pieces : IsProper jobs slots (level_c ∷ record { work = 8; length = 6; pieces = piece 2 4 ∷ piece 6 9 ∷ []; members = 1 ∷ [] } ∷ level_a ∷ []) → ⊥
not_its_pieces proper = absurd (omega (arith, (proper.sums 1 (omega arith)).length))

-- b's work raised by one: the work isn't its members' either
not_its_work : IsProper jobs slots (level_c ∷ record { work = 9; length = 6; pieces = piece 2 4 ∷ piece 6 10 ∷ []; members = 1 ∷ [] } ∷ level_a ∷ []) → ⊥
not_its_work proper = absurd (omega (arith, (proper.sums 1 (omega arith)).work))

-- b's first piece made longer by one: it overlaps c's
abbrev overlapping : List Level
overlapping = level_c ∷ record { work = 8; length = 7; pieces = piece 2 5 ∷ piece 6 10 ∷ []; members = 1 ∷ [] } ∷ level_a ∷ []

-- so the pieces don't stand
overlaps : IsProper jobs slots overlapping → ⊥
overlaps proper = refuted (pieces_stand overlapping 1) refl (proper.pieces 1 (omega arith))

-- b's level left out: b is a member of none
in_no_level : IsProper jobs slots (level_c ∷ level_a ∷ []) → ⊥
in_no_level proper = absurd (omega (arith, (proper.members 1 (omega arith)).with_work (omega arith)))

-- a's pieces without its last one: the rest of its window lies in no piece
abbrev cut_off : List Level
cut_off = level_c ∷ level_b ∷ record { work = 4; length = 2; pieces = piece 0 2 ∷ []; members = 0 ∷ [] } ∷ []

-- so a's window isn't covered
not_covered : IsProper jobs slots cut_off → ⊥
not_covered proper = refuted (window_covered jobs cut_off 0) refl (proper.windows 0 (omega arith))

-- a's second slot does more of its work, and its first less: neither has the level's speed
abbrev uneven : List WrittenSlot
uneven = slot 0 0 2 (of_whole 1) ∷ slot 1 2 4 (third 2 2) ∷ slot 2 4 6 (of_whole 6) ∷ slot 1 6 10 (third 5 1) ∷ slot 0 10 12 (of_whole 3) ∷ []

-- the first has half of it
not_its_speed : HasWrittenSpeed levels uneven 0 → ⊥
not_its_speed = refuted (written_speed levels uneven 0) refl

-- # A plan has one form

-- b's second slot cut in two at 8: the certificate is proper for these slots too,
abbrev cut : List WrittenSlot
cut = slot 0 0 2 (of_whole 2) ∷ slot 1 2 4 (third 2 2) ∷ slot 2 4 6 (of_whole 6) ∷ slot 1 6 8 (third 2 2) ∷ slot 1 8 10 (third 2 2) ∷ slot 0 10 12 (of_whole 2) ∷ []

-- since they are feasible and have the levels' speeds,
cut_proper : IsProper jobs cut levels
cut_proper = proper_by_test jobs cut levels refl refl refl

-- but b has two slots in the stretch from 6 to 10, so it isn't a plan
not_once : IsPlan jobs cut levels → ⊥
not_once plan =
    refuted (served_in_stretches jobs 3 (slots_at 3 cut)) refl
    (plan.served 3 (proved (is_scale 3 cut) refl))

-- # A denominator of 0 has no scale

-- one slot with denominators of 0 is at no scale, so all would be true of it that is said at each
abbrev nowhere : List WrittenSlot
nowhere =
    record { job = 2; from = record { whole = 0; num = 0; den = 0 }; to = record { whole = 0; num = 0; den = 0 }; work = record { whole = 0; num = 0; den = 0 } } ∷ []

-- one level, of all jobs over the whole time
abbrev one_level : List Level
one_level = record { work = 18; length = 12; pieces = piece 0 12 ∷ []; members = 0 ∷ 1 ∷ 2 ∷ [] } ∷ []

-- there is indeed no scale of the slot
no_scale : (scale : ℕ) → IsScale scale nowhere → ⊥
no_scale scale is = absurd (omega (arith, is.positive, eq-zero_of_zero-dvd (is.divided 0 no_written_slot (omega arith)).from))

-- but the slot isn't feasible,
nowhere_feasible : IsFeasible jobs nowhere → ⊥
nowhere_feasible is = absurd (omega (arith, (is.solid 0 no_written_slot (omega arith)).from))

-- nor least,
nowhere_least : IsLeast jobs nowhere → ⊥
nowhere_least is = absurd (omega (arith, (is.solid 0 no_written_slot (omega arith)).from))

-- nor cheapest,
nowhere_cheapest : IsCheapest jobs nowhere → ⊥
nowhere_cheapest is = nowhere_feasible is.feasible

-- nor explained by the level,
nowhere_explained : Explains jobs nowhere one_level → ⊥
nowhere_explained is = absurd (omega (arith, (is.solid 0 no_written_slot (omega arith)).from))

-- for which it isn't proper
nowhere_proper : IsProper jobs nowhere one_level → ⊥
nowhere_proper is = nowhere_feasible is.feasible

-- and no plan
nowhere_plan : IsPlan jobs nowhere one_level → ⊥
nowhere_plan is = nowhere_feasible is.proper.feasible
