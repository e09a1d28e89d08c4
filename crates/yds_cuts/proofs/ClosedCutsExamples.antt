-- Two jobs of work 2 with windows from 0 to 2 and from 5 to 7, by the points (0, 1) and (1, 2): what meets the laws of closed cuts, and near misses.
use Rattle.yds_model.proofs.Common.{rules, ◌≡◌, ℕ, zero, suc, ◌+◌, ◌-◌, ◌*◌, ◌<◌, ◌≤◌, List, [], ◌∷◌, refl, arith, inl, inr, cases_lt, pos, ints, All-nil, All-cons, ap, one-dvd, Job, job_at, Fraction, of_whole, WholeSlot, IsFeasible, IsInWindow, work_given, IsLeastAt, Piece, IsConfined, Point, IsTable, IsHullOf, IsLowest, point_at, horizon, interpolated_energy, Spends, Spent, TooSlowFor}
use Rattle.model_lemmas.proofs.Scale.{one_scale_decides}
use Rattle.yds_laws.proofs.Bound.{confinement_bound}
use Rattle.yds_energy.specs.RoundingLaws.{IsLeastEnergy}
use Rattle.yds_energy.proofs.Differences.{at_most_in_turn}
use Rattle.yds_energy.proofs.Energy.{least_is_cheapest}
use Rattle.yds_energy.proofs.HullEnergy.{points_cost_at_least_the_hull}
use Rattle.yds_cuts.specs.Cuts.{Part, all_jobs, all_slots, part_horizons}
use Rattle.yds_cuts.specs.Energies.{IsSumWith, IsEnergyOver}
use Rattle.yds_cuts.specs.ClosedCuts.{AreParted, IsCheapestOnPoints, IsScheduledPart, at_first, time_at_place, IsSpentOver, first_too_slow}
use Rattle.yds_cuts.proofs.CheapestParts.{cheapest_in_each_part}
use Rattle.yds_cuts.proofs.CutsExamples.{job, part, early, late}
use Rattle.yds_cuts.proofs.BoundsExamples.{one_number}
use Rattle.yds_cuts.proofs.LeastEnergies.{least_from_scales}

-- a job of work 2 with a slot that fills its window
abbrev pub full : ℕ → Part
full release = part release (release + 2) release (release + 2) 2

abbrev parts : List Part
parts = full 0 ∷ full 5 ∷ []

-- Their windows are apart,
parted : AreParted parts
parted = (
  2,
  omega arith,
  All-cons (λ (job : Job). 0 ≤ job.release) (job 0 2 2) [] (omega arith) (All-nil (λ (job : Job). 0 ≤ job.release)),
  All-cons (λ (job : Job). job.deadline ≤ 2) (job 0 2 2) [] (omega arith) (All-nil (λ (job : Job). job.deadline ≤ 2)),
  (
    7,
    omega arith,
    All-cons (λ (job : Job). 2 ≤ job.release) (job 5 7 2) [] (omega arith) (All-nil (λ (job : Job). 2 ≤ job.release)),
    All-cons (λ (job : Job). job.deadline ≤ 7) (job 5 7 2) [] (omega arith) (All-nil (λ (job : Job). job.deadline ≤ 7)),
    tt,
  ),
)

-- with 3 units of time between them.
horizons : part_horizons parts ≡ 4
horizons = refl

horizon_of_all : horizon (all_jobs parts) ≡ 7
horizon_of_all = refl

-- Near miss: windows that are open at the cut.
not_parted : AreParted (early ∷ late ∷ []) → ⊥
not_parted (end, order, releases, deadlines, (last, after, later, ends, rest)) =
    absurd (omega (arith, deadlines 0 (job 0 4 2) (omega arith), later 0 (job 1 6 2) (omega arith)))

-- # Each part is scheduled, and cheapest on the points

abbrev pub points : List Point
points = record { speed = 0; power = 1 } ∷ record { speed = 1; power = 2 } ∷ []

table : IsTable points
table = record { some = omega arith; idle = refl; rising = (omega arith, tt) }

hull : IsHullOf points points
hull = record { part = (refl, inl (refl, tt)); convex = tt }

module _ (release : ℕ) where
  abbrev alone : List Job
  alone = (full release).jobs

  feasible : IsFeasible alone (full release).slots
  feasible = one_scale_decides alone (full release).slots 1 (search (arith, rules, All-cons, All-nil, one-dvd)) (grind arith)

  scheduled : IsScheduledPart (full release)
  scheduled = record {
    some = omega arith;
    windows = All-cons (λ (job : Job). job.release < job.deadline) (job release (release + 2) 2) [] (omega arith) (All-nil (λ (job : Job). job.release < job.deadline));
    feasible = feasible;
  }

  -- at a scale it is least
  abbrev filled : ℕ → List WholeSlot
  filled scale = record { job = 0; from = release * scale; to = (release + 2) * scale; work = 2 * scale } ∷ []

  least : (scale : ℕ) → 1 ≤ scale → IsLeastAt alone scale (filled scale)
  least scale some = record {
    feasible = record {
      one_at_a_time = (omega arith, omega (arith, some), tt);
      in_windows = All-cons (IsInWindow alone scale) (record { job = 0; from = release * scale; to = (release + 2) * scale; work = 2 * scale }) []
          (record { known = omega arith; released = omega arith; due = omega arith }) (All-nil (IsInWindow alone scale));
      served = served;
    };
    least = λ p q positive others served.
        let piece : Piece = record { from = release; to = release + 2 } in
        let bound = confinement_bound alone scale p q others (0 ∷ []) (piece ∷ []) some (one_number 0)
        (All-cons (λ number. number < 1) 0 [] (omega arith) (All-nil (λ number. number < 1)))
        (All-cons (λ number. IsConfined (job_at alone number) (piece ∷ [])) 0 []
        (λ time begins ends. (0, piece, omega arith, refl, (begins, ends))) (All-nil (λ number. IsConfined (job_at alone number) (piece ∷ []))))
        served in
        let long : (release + 2) * scale - release * scale ≡ 2 * scale = omega arith in
        let window : release + 2 - release ≡ 2 = omega arith in
        omega (arith, bound, ap (λ n. p * n) long, ap (λ n. p * scale * n) window);
  }
    where
      served : (number : ℕ) → number < 1 → work_given (filled scale) number ≡ (job_at alone number).work * scale
      served zero within = omega arith
      served (suc number) within = absurd (omega (arith, within))

  -- its energy is 4: a power of 2 for 2 units of time
  long : horizon alone ≡ 2
  long = grind arith

  costs_4 : (scale : ℕ) → interpolated_energy alone points scale (filled scale) ≡ pos (4 * scale)
  costs_4 scale = omega (arith, ints, ap (λ n. scale * n) long)

  least_energy : IsLeastEnergy alone points (of_whole 4)
  least_energy = least_from_scales alone points (of_whole 4) (λ scale spent others served spends. elim (cases_lt scale 1) [
    | inl none ↦ omega (arith, none)
    | inr some ↦
        let most = at_most_in_turn _ _ _ (least_is_cheapest alone points scale (filled scale) others table tt (least scale some) served)
        (points_cost_at_least_the_hull alone points points scale spent others table.rising hull spends) in
        omega (arith, ints, most, costs_4 scale)
  ])

  pub cheapest : IsCheapestOnPoints alone points (full release).slots (of_whole 4)
  cheapest = record {
    feasible = feasible;
    energy_of = record {
      has_parts = omega arith;
      at_scales = record {
        solid = feasible.solid;
        holds = λ scale is. (
          4 * scale,
          (4 * scale, (record { speed = 1; power = 2 }, 0, (1, omega arith, refl), omega arith, refl, omega arith), omega (arith, ap (λ n. scale * n) long)),
          omega arith,
        );
      };
    };
    least = least_energy;
  }

-- So both together are cheapest: 4 and 4, and the first point's power for the 3 units of time between.
over_11 : IsEnergyOver 7 4 points (of_whole 4 ∷ of_whole 4 ∷ []) (of_whole 11)
over_11 = record {
  has_parts = omega arith;
  each = All-cons (λ (one : Fraction). 1 ≤ one.den) (of_whole 4) (of_whole 4 ∷ []) (omega arith)
      (All-cons (λ (one : Fraction). 1 ≤ one.den) (of_whole 4) [] (omega arith) (All-nil (λ (one : Fraction). 1 ≤ one.den)));
  sum = of_whole 8;
  sum_has_parts = omega arith;
  is_sum = (of_whole 4, omega arith, (of_whole 0, omega arith, refl, refl), refl);
  same = refl;
}

both_cheapest : IsCheapestOnPoints (all_jobs parts) points (all_slots parts) (of_whole 11)
both_cheapest = cheapest_in_each_part points parts (of_whole 4 ∷ of_whole 4 ∷ []) (of_whole 11) parted (cheapest 0, (cheapest 5, tt)) over_11

-- # Sides

-- The first part's side that is too slow is told, and what all spend only where none is.
abbrev nothing : Spent
nothing = record { energy = of_whole 0; times = [] }

first_slow : first_too_slow nothing (Spends nothing ∷ TooSlowFor 5 2 4 ∷ TooSlowFor 6 5 7 ∷ []) ≡ TooSlowFor 5 2 4
first_slow = refl

none_slow : first_too_slow nothing (Spends nothing ∷ Spends nothing ∷ []) ≡ Spends nothing
none_slow = refl

-- # What compare tells

-- Each part runs for 2 units of time at the point (1, 2), so both do for 4, and idle for the 3 units between: energy 11, times 3 and 4.
abbrev spent : Spent
spent = record { energy = of_whole 4; times = of_whole 0 ∷ of_whole 2 ∷ [] }

-- so many and so many more, in whole numbers
pub sum_of_two : (one other more own whole : ℕ) → own + whole ≡ more + (one + other) → IsSumWith more own (of_whole one ∷ of_whole other ∷ []) (of_whole whole)
sum_of_two one other more own whole is = record {
  has_parts = omega arith;
  each = All-cons (λ (one : Fraction). 1 ≤ one.den) (of_whole one) (of_whole other ∷ []) (omega arith)
      (All-cons (λ (one : Fraction). 1 ≤ one.den) (of_whole other) [] (omega arith) (All-nil (λ (one : Fraction). 1 ≤ one.den)));
  sum = of_whole (one + other);
  sum_has_parts = omega arith;
  is_sum = (of_whole other, omega arith, (of_whole 0, omega arith, refl, omega arith), omega arith);
  same = omega (arith, is);
}

over : IsSpentOver 7 4 points (spent ∷ spent ∷ []) (record { energy = of_whole 11; times = of_whole 3 ∷ of_whole 4 ∷ [] })
over = record {
  energy = over_11;
  energy_lowest = record { below_one = omega arith; reduced = refl };
  many = refl;
  times = times;
  times_lowest = All-cons IsLowest (of_whole 3) (of_whole 4 ∷ []) (record { below_one = omega arith; reduced = refl })
      (All-cons IsLowest (of_whole 4) [] (record { below_one = omega arith; reduced = refl }) (All-nil IsLowest));
}
  where
    times : (i : ℕ) → i < 2 → IsSumWith (at_first points (point_at points i).speed 7) (at_first points (point_at points i).speed 4)
        (time_at_place i spent ∷ time_at_place i spent ∷ []) (time_at_place i (record { energy = of_whole 11; times = of_whole 3 ∷ of_whole 4 ∷ [] }))
    times zero within = sum_of_two 0 0 7 4 3 (omega arith)
    times (suc zero) within = sum_of_two 2 2 0 0 4 (omega arith)
    times (suc (suc i)) within = absurd (omega (arith, within))
