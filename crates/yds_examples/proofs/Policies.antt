-- The two policies, tried on small runs of each, on the grids 1 and 6: at a scale of their slots, and at each.
use Rattle.yds_model.proofs.Common.{◌≡◌, ℕ, zero, suc, ◌-◌, ◌*◌, ◌≤◌, List, [], ◌∷◌, map, refl, ap, arith, inl, inr, count_by, All, Contains, Job, Fraction, of_whole, of_parts, WrittenSlot, AtEachScale, IsScale, slots_at, written_slot_at, IsFeasible, Piece, stretches, IsRunAt, HasRunDenominators, average_rate, average_rate_rounds, IsAverageRateRun, optimal_available, optimal_available_rounds, IsOptimalAvailableRun, work_in}
use Rattle.yds_events.specs.Stretch.{no_stretch}
use Rattle.yds_laws.specs.RunLaws.{DoesItsTerms}
use Rattle.yds_laws.proofs.ExactRates.{average_rate_is_exact}
use Rattle.yds_energy.proofs.Finer.{each_scale_of}
use Rattle.yds_energy.proofs.RunScale.{average_rate_run_free, optimal_available_run_free, optimal_available_rounds_free}
use Rattle.yds_examples.proofs.Tests.{tests, proved, refuted}
use Rattle.yds_examples.proofs.TestedSchedules.{is_scale, feasible_by_test, run_at}

-- Average Rate: a from 0 to 3 with work 2, b from 1 to 3 with work 2
abbrev pub rate_jobs : List Job
rate_jobs = record { release = 0; deadline = 3; work = 2 } ∷ record { release = 1; deadline = 3; work = 2 } ∷ []

-- its run on the grid 1
abbrev pub rate_slots : List WrittenSlot
rate_slots =
    record { job = 0; from = of_whole 0; to = of_whole 1; work = of_whole 1 }
    ∷ record { job = 0; from = of_whole 1; to = of_parts 5 3; work = of_whole 1 }
    ∷ record { job = 1; from = of_parts 5 3; to = of_whole 3; work = of_whole 2 } ∷ []

-- the event points are 0, 1 and 3
two_stretches : stretches rate_jobs ≡ record { from = 0; to = 1 } ∷ record { from = 1; to = 3 } ∷ []
two_stretches = refl

-- At 0 two thirds of a unit are rounded up to 1. At 1 the terms 2 and 2 are more than the 3 units that are pending.
first_units : average_rate rate_jobs 1 3 (slots_at 3 rate_slots) (record { from = 0; to = 1 }) ≡ 3
first_units = refl

-- so it serves those 3, at scale 3
second_units : average_rate rate_jobs 1 3 (slots_at 3 rate_slots) (record { from = 1; to = 3 }) ≡ 9
second_units = refl

-- it rounds at both event points
rate_rounds : count_by (average_rate_rounds rate_jobs 1) (stretches rate_jobs) ≡ 2
rate_rounds = refl

-- At scale 3 the slots are a run: feasible, in order of the earliest deadline, and they serve that much.
rate_run : IsRunAt rate_jobs 1 3 (average_rate rate_jobs 1 3 (slots_at 3 rate_slots)) (slots_at 3 rate_slots)
rate_run = proved (run_at rate_jobs 1 3 (average_rate rate_jobs 1 3 (slots_at 3 rate_slots)) (slots_at 3 rate_slots)) refl

-- 3 is a scale of them
pub rate_thirds : IsScale 3 rate_slots
rate_thirds = proved (is_scale 3 rate_slots) refl

-- one scale decides, so they are a run at each
rate_at_each : AtEachScale rate_slots (λ scale whole. IsRunAt rate_jobs 1 scale (average_rate rate_jobs 1 scale whole) whole)
rate_at_each = each_scale_of _ (average_rate_run_free rate_jobs 1) rate_slots 3 rate_thirds rate_run

-- the slots are a run of Average Rate that rounds at two event points
pub rate_accepted : IsAverageRateRun rate_jobs 1 2 rate_slots
rate_accepted = record { run = rate_at_each; rounds = refl }

-- with the count 0 they are refused
pub rate_refused : IsAverageRateRun rate_jobs 1 0 rate_slots → ⊥
rate_refused is = absurd (omega (arith, is.rounds))

-- Served before it is rounded up, a does two thirds of a unit until 1. This is feasible,
abbrev not_rounded : List WrittenSlot
not_rounded =
    record { job = 0; from = of_whole 0; to = of_whole 1; work = of_parts 2 3 }
    ∷ record { job = 0; from = of_whole 1; to = of_whole 2; work = of_parts 4 3 }
    ∷ record { job = 1; from = of_whole 2; to = of_whole 3; work = of_whole 2 } ∷ []

-- since both jobs get their work
not_rounded_feasible : IsFeasible rate_jobs not_rounded
not_rounded_feasible = feasible_by_test rate_jobs not_rounded 3 refl refl

-- but no run on the grid 1.
not_rounded_refused : IsAverageRateRun rate_jobs 1 2 not_rounded → ⊥
not_rounded_refused is =
    let capacity = average_rate rate_jobs 1 3 (slots_at 3 not_rounded) in
    refuted (run_at rate_jobs 1 3 capacity (slots_at 3 not_rounded)) refl
    (is.run.holds 3 (proved (is_scale 3 not_rounded) refl))

-- The second stretch serves those 3, and so less than the sum of the terms: rounding up was more than the jobs had.
pub capped : DoesItsTerms rate_jobs 1 3 (slots_at 3 rate_slots) (record { from = 1; to = 3 }) → ⊥
capped does = absurd (omega (arith, does.does))

-- On the grid 3 each term is whole: 2 units of a until 1, then 4 of a and 6 of b. Slots are whole at scale 15.
abbrev pub whole_slots : List WrittenSlot
whole_slots =
    record { job = 0; from = of_whole 0; to = of_whole 1; work = of_parts 2 3 }
    ∷ record { job = 0; from = of_whole 1; to = of_parts 9 5; work = of_parts 4 3 }
    ∷ record { job = 1; from = of_parts 9 5; to = of_whole 3; work = of_whole 2 } ∷ []

-- the units, times the scale, are those of the terms
whole_units : map (average_rate rate_jobs 3 15 (slots_at 15 whole_slots)) (stretches rate_jobs) ≡ 2 * 15 ∷ 10 * 15 ∷ []
whole_units = refl

-- the slots are a run at this scale
whole_run : IsRunAt rate_jobs 3 15 (average_rate rate_jobs 3 15 (slots_at 15 whole_slots)) (slots_at 15 whole_slots)
whole_run = proved (run_at rate_jobs 3 15 (average_rate rate_jobs 3 15 (slots_at 15 whole_slots)) (slots_at 15 whole_slots)) refl

-- 15 is a scale of them
whole_scale : IsScale 15 whole_slots
whole_scale = proved (is_scale 15 whole_slots) refl

-- so they are a run at each, which rounds nowhere
pub whole_accepted : IsAverageRateRun rate_jobs 3 0 whole_slots
whole_accepted = record {
  run = each_scale_of _ (average_rate_run_free rate_jobs 3) whole_slots 15 whole_scale whole_run;
  rounds = refl;
}

-- by the law each stretch does the sum of the terms
pub whole_terms : AtEachScale whole_slots (λ scale whole. All (DoesItsTerms rate_jobs 3 scale whole) (stretches rate_jobs))
whole_terms = average_rate_is_exact rate_jobs 3 whole_slots (omega arith) whole_accepted

-- at scale 15, that is 10 units in the second
second_terms : 3 * work_in 15 (record { from = 1; to = 3 }) (slots_at 15 whole_slots) ≡ 15 * 10
second_terms = (whole_terms.holds 15 whole_scale 1 no_stretch (omega arith)).does

-- Optimal Available: a from 0 to 3 with work 2, b from 1 to 2 with work 1
abbrev pub available_jobs : List Job
available_jobs = record { release = 0; deadline = 3; work = 2 } ∷ record { release = 1; deadline = 2; work = 1 } ∷ []

-- its run on the grid 1
abbrev pub available_slots : List WrittenSlot
available_slots =
    record { job = 0; from = of_whole 0; to = of_whole 1; work = of_whole 1 }
    ∷ record { job = 1; from = of_whole 1; to = of_whole 2; work = of_whole 1 }
    ∷ record { job = 0; from = of_whole 2; to = of_whole 3; work = of_whole 1 } ∷ []

-- at 0 two units until 3 ask for two thirds of one, rounded up to 1
units_at_0 : optimal_available available_jobs 1 1 (slots_at 1 available_slots) (record { from = 0; to = 1 }) ≡ 1
units_at_0 = refl

-- at 1 each of the two deadlines asks for 1
units_at_1 : optimal_available available_jobs 1 1 (slots_at 1 available_slots) (record { from = 1; to = 2 }) ≡ 1
units_at_1 = refl

-- at 2 what is pending is 1
units_at_2 : optimal_available available_jobs 1 1 (slots_at 1 available_slots) (record { from = 2; to = 3 }) ≡ 1
units_at_2 = refl

-- it rounds at 0 alone
available_rounds : count_by (optimal_available_rounds available_jobs 1 1 (slots_at 1 available_slots)) (stretches available_jobs) ≡ 1
available_rounds = refl

-- At scale 1 the slots are a run.
available_run : IsRunAt available_jobs 1 1 (optimal_available available_jobs 1 1 (slots_at 1 available_slots)) (slots_at 1 available_slots)
available_run = proved (run_at available_jobs 1 1 (optimal_available available_jobs 1 1 (slots_at 1 available_slots)) (slots_at 1 available_slots)) refl

-- 1 is a scale of them
pub available_whole : IsScale 1 available_slots
available_whole = proved (is_scale 1 available_slots) refl

-- so they are a run at each
available_at_each : AtEachScale available_slots (λ scale whole. IsRunAt available_jobs 1 scale (optimal_available available_jobs 1 scale whole) whole)
available_at_each = each_scale_of _ (optimal_available_run_free available_jobs 1) available_slots 1 available_whole available_run

-- and it rounds at one event point at each
available_rounds_at_each : AtEachScale available_slots (λ scale whole. 1 ≡ count_by (optimal_available_rounds available_jobs 1 scale whole) (stretches available_jobs))
available_rounds_at_each = each_scale_of _ (optimal_available_rounds_free available_jobs 1 1) available_slots 1 available_whole refl

-- the slots are a run of Optimal Available that rounds at one event point
available_accepted : IsOptimalAvailableRun available_jobs 1 1 available_slots
available_accepted = record { run = available_at_each; rounds = available_rounds_at_each }

-- with the count 0 they are refused
pub available_refused : IsOptimalAvailableRun available_jobs 1 0 available_slots → ⊥
available_refused is = absurd (omega (arith, is.rounds.holds 1 available_whole))

-- All of a's work before b is feasible too,
abbrev eager_slots : List WrittenSlot
eager_slots =
    record { job = 0; from = of_whole 0; to = of_whole 1; work = of_whole 2 }
    ∷ record { job = 1; from = of_whole 1; to = of_whole 2; work = of_whole 1 } ∷ []

-- since both jobs get their work
eager_feasible : IsFeasible available_jobs eager_slots
eager_feasible = feasible_by_test available_jobs eager_slots 1 refl refl

-- but no run: until 1 just one unit is asked for
eager_refused : IsOptimalAvailableRun available_jobs 1 1 eager_slots → ⊥
eager_refused is =
    let capacity = optimal_available available_jobs 1 1 (slots_at 1 eager_slots) in
    refuted (run_at available_jobs 1 1 capacity (slots_at 1 eager_slots)) refl
    (is.run.holds 1 (proved (is_scale 1 eager_slots) refl))

-- On the grid 6 it asks for just what is due: 4 units until 1, and 7 until 2 and until 3. Slots are whole at scale 42.
abbrev pub fine_slots : List WrittenSlot
fine_slots =
    record { job = 0; from = of_whole 0; to = of_whole 1; work = record { whole = 0; num = 4; den = 6 } }
    ∷ record { job = 1; from = of_whole 1; to = of_parts 13 7; work = of_whole 1 }
    ∷ record { job = 0; from = of_parts 13 7; to = of_whole 2; work = of_parts 1 6 }
    ∷ record { job = 0; from = of_whole 2; to = of_whole 3; work = of_parts 7 6 } ∷ []

-- the units, times the scale
fine_units : map (optimal_available available_jobs 6 42 (slots_at 42 fine_slots)) (stretches available_jobs) ≡ 4 * 42 ∷ 7 * 42 ∷ 7 * 42 ∷ []
fine_units = refl

-- the slots are a run at this scale
fine_run : IsRunAt available_jobs 6 42 (optimal_available available_jobs 6 42 (slots_at 42 fine_slots)) (slots_at 42 fine_slots)
fine_run = proved (run_at available_jobs 6 42 (optimal_available available_jobs 6 42 (slots_at 42 fine_slots)) (slots_at 42 fine_slots)) refl

-- 42 is a scale of them
pub fine_scale : IsScale 42 fine_slots
fine_scale = proved (is_scale 42 fine_slots) refl

-- so they are a run at each,
fine_at_each : AtEachScale fine_slots (λ scale whole. IsRunAt available_jobs 6 scale (optimal_available available_jobs 6 scale whole) whole)
fine_at_each = each_scale_of _ (optimal_available_run_free available_jobs 6) fine_slots 42 fine_scale fine_run

-- which rounds nowhere
fine_rounds_at_each : AtEachScale fine_slots (λ scale whole. 0 ≡ count_by (optimal_available_rounds available_jobs 6 scale whole) (stretches available_jobs))
fine_rounds_at_each = each_scale_of _ (optimal_available_rounds_free available_jobs 6 0) fine_slots 42 fine_scale refl

-- the slots are a run of Optimal Available that rounds at no event point
pub fine_accepted : IsOptimalAvailableRun available_jobs 6 0 fine_slots
fine_accepted = record { run = fine_at_each; rounds = fine_rounds_at_each }

-- b's slot has its work whole and its end over 7: 7 units in a stretch of length 1, in lowest terms
fine_denominators : HasRunDenominators available_jobs 6 (written_slot_at fine_slots 1)
fine_denominators = record {
  stretch = record { from = 1; to = 2 };
  is_stretch = (1, omega arith, refl);
  lies = record { from = omega arith; to = omega arith };
  units = 7;
  speed = refl;
  work = inl refl;
  from = inl refl;
  to = inr refl;
}

-- a stretch in which such a slot lies is the one from 1 to 2, and the slot has the speed of 7 units there
seven_units : (stretch : Piece) (units : ℕ) → Contains (stretches available_jobs) stretch → stretch.from * 1 ≤ 1 → 26 ≤ stretch.to * 14 →
    1 * (6 * (stretch.to - stretch.from)) * (1 * 14) ≡ units * 12 * 1 → (units ≡ 7) × (stretch.to - stretch.from ≡ 1)
seven_units stretch units (zero, within, is) begins ends speed = absurd (omega (arith, ends, ap (λ (s : Piece). s.to) is))
seven_units stretch units (suc zero, within, is) begins ends speed =
    let long : stretch.to - stretch.from ≡ 1 = omega (arith, ap (λ (s : Piece). s.from) is, ap (λ (s : Piece). s.to) is) in
    (omega (arith, speed, long), long)
seven_units stretch units (suc (suc zero), within, is) begins ends speed = absurd (omega (arith, begins, ap (λ (s : Piece). s.from) is))
seven_units stretch units (suc (suc (suc i)), within, is) begins ends speed = absurd (omega (arith, within))

-- the end 26/14, the same as 13/7
abbrev over_14 : Fraction
over_14 = record { whole = 1; num = 12; den = 14 }

-- is refused: in lowest terms the units ask for the denominator 7
other_denominators : HasRunDenominators available_jobs 6 (record { job = 1; from = of_whole 1; to = over_14; work = of_whole 1 }) → ⊥
other_denominators has = grind (arith, refuted, tests)
