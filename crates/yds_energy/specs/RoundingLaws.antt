-- The laws of schedules on a table's points. Each is the contract of a public function of this crate.
use Rattle.std.specs.Prelude.{◌≡◌, ℕ, ◌*◌, ◌≤◌, ◌↔◌, List, ◌∷◌, ◌++◌, Some, sum_by, pos}
use Rattle.std.specs.List.{All}
use Rattle.yds_model.specs.Job.{Job}
use Rattle.yds_model.specs.Scale.{Fraction, numerator, IsSame, IsAtMost}
use Rattle.yds_model.specs.Slot.{WrittenSlot, WholeSlot, IsScale, AtEachScale, slots_at}
use Rattle.yds_model.specs.Feasible.{IsFeasibleAt, IsFeasible}
use Rattle.yds_model.specs.Level.{Level}
use Rattle.yds_model.specs.Plan.{IsPlan}
use Rattle.yds_model.specs.Audit.{IsOnTable}
use Rattle.yds_model.specs.Table.{Point, AreRising, IsTable, hull_of, gaps_of}
use Rattle.yds_model.specs.Energy.{horizon, product, interpolated_energy, IsEnergyOnPoints}
use Rattle.yds_model.specs.Rounding.{top_of, IsTooFast, IsEnergyOf, IsRounding}
use Rattle.yds_model.specs.Admission.{IsWithinTop, CanServe}

-- Energy: a fraction that is the schedule's energy on the points at one scale is so at each.
abbrev pub OneScaleDecidesEnergy : Type 0
OneScaleDecidesEnergy = (jobs : List Job) (points : List Point) (slots : List WrittenSlot) (energy : Fraction) (scale spent : ℕ) → 1 ≤ energy.den →
    IsScale scale slots → IsEnergyOnPoints jobs points scale (slots_at scale slots) spent → spent * energy.den ≡ numerator energy * scale →
    IsEnergyOf jobs points slots energy

-- Energy: a feasible schedule has one energy on the points.
abbrev pub EnergyIsOne : Type 0
EnergyIsOne = (jobs : List Job) (points : List Point) (slots : List WrittenSlot) (energy other : Fraction) → AreRising points → IsFeasible jobs slots →
    IsEnergyOf jobs points slots energy → IsEnergyOf jobs points slots other → IsSame energy other

-- The schedule is feasible, and each of its slots runs at the speed of one of the points, so none is faster than the top.
pub record IsFeasibleOnPoints (jobs : List Job) (points : List Point) (slots : List WrittenSlot) : Type 0 where
  pub feasible : IsFeasible jobs slots
  pub on_points : All (IsOnTable (Some points)) slots
  pub within_top : AtEachScale slots (λ scale whole. All (IsWithinTop (top_of points)) whole)

-- Rounding: the slots of a plan, rounded, are a feasible schedule on the points.
abbrev pub RoundedIsFeasible : Type 0
RoundedIsFeasible = (jobs : List Job) (points : List Point) (planned : List WrittenSlot) (levels : List Level) (written : List WrittenSlot) (energy : Fraction) →
    IsPlan jobs planned levels → IsTable points → IsRounding jobs points planned levels written energy → IsFeasibleOnPoints jobs points written

-- Rounding: what the rounded slots spend on the points, with the idle time, is the energy that the plan's schedule has by the table's
-- lower hull. The latter is that times the product of the hull's gaps.
abbrev pub RoundedAttainsTheHull : Type 0
RoundedAttainsTheHull = (jobs : List Job) (points : List Point) (planned : List WrittenSlot) (levels : List Level) (written : List WrittenSlot) (energy : Fraction)
    (scale spent : ℕ) → IsPlan jobs planned levels → IsTable points → IsRounding jobs points planned levels written energy →
    IsScale scale (planned ++ written) → IsEnergyOnPoints jobs points scale (slots_at scale written) spent →
    interpolated_energy jobs (hull_of points) scale (slots_at scale planned) ≡ pos (product (gaps_of (hull_of points)) * spent)

-- The lengths of a plan's levels are together at most the horizon.
abbrev pub LevelsFitTheHorizon : Type 0
LevelsFitTheHorizon = (jobs : List Job) (slots : List WrittenSlot) (levels : List Level) → IsPlan jobs slots levels →
    sum_by (λ level. level.length) levels ≤ horizon jobs

-- No feasible schedule on the points spends less than this energy: none of whole numbers at any scale, and none that is written,
-- whatever its denominators are.
pub record IsLeastEnergy (jobs : List Job) (points : List Point) (energy : Fraction) : Type 0 where
  pub at_scales : (scale spent : ℕ) (others : List WholeSlot) → IsFeasibleAt jobs scale others → IsEnergyOnPoints jobs points scale others spent →
      numerator energy * scale ≤ spent * energy.den
  pub of_written : (others : List WrittenSlot) (spent : Fraction) → IsFeasible jobs others → IsEnergyOf jobs points others spent → IsAtMost energy spent

-- Rounding: the energy of the rounded slots is the least of all feasible schedules on the points, whether the table is convex or not.
abbrev pub RoundedIsCheapest : Type 0
RoundedIsCheapest = (jobs : List Job) (points : List Point) (planned : List WrittenSlot) (levels : List Level) (written : List WrittenSlot) (energy : Fraction) →
    IsPlan jobs planned levels → IsTable points → IsRounding jobs points planned levels written energy → IsLeastEnergy jobs points energy

-- Too slow: the first level of a plan is faster than the top point exactly where no feasible schedule stays at or below the top
-- speed, and none of its levels is exactly where one does.
pub record TooSlowIsExact : Type 0 where
  pub first : (jobs : List Job) (points : List Point) (slots : List WrittenSlot) (level : Level) (levels : List Level) → IsPlan jobs slots (level ∷ levels) →
      (IsTooFast points level ↔ (CanServe (top_of points) jobs → ⊥))
  pub none : (jobs : List Job) (points : List Point) (slots : List WrittenSlot) (levels : List Level) → IsPlan jobs slots levels →
      (All (λ level. IsTooFast points level → ⊥) levels ↔ CanServe (top_of points) jobs)
