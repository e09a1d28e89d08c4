-- The laws of energy. Each is the contract of a public function of this crate.
use Rattle.std.specs.Prelude.{ℕ, ◌+◌, ◌-◌, ◌*◌, ◌<◌, List, ◌++◌, length, pos, ◌*ℤ◌, ◌≤ℤ◌}
use Rattle.yds_model.specs.Job.{Job}
use Rattle.yds_model.specs.Slot.{WrittenSlot, WholeSlot, IsScale, slots_at}
use Rattle.yds_model.specs.Feasible.{IsFeasibleAt, IsFeasible}
use Rattle.yds_model.specs.Excess.{IsLeastAt, IsLeast}
use Rattle.yds_model.specs.Level.{Level}
use Rattle.yds_model.specs.Plan.{IsPlan}
use Rattle.yds_model.specs.Table.{Point, point_at, AreRising, IsTable, IsConvex, IsHullOf, gaps_of}
use Rattle.yds_model.specs.Energy.{product, on_line, interpolated_power, interpolated_energy, IsEnergyOnPoints}

-- By a convex table of any size, a schedule that is least above every speed has at most the energy of each feasible schedule,
-- also where one of them is faster than the table's top.
abbrev pub LeastIsCheapest : Type 0
LeastIsCheapest = (jobs : List Job) (points : List Point) (scale : ℕ) (slots others : List WholeSlot) → IsTable points → IsConvex points →
    IsLeastAt jobs scale slots → IsFeasibleAt jobs scale others →
    interpolated_energy jobs points scale slots ≤ℤ interpolated_energy jobs points scale others

-- A written schedule is cheapest: it is feasible, and by every convex table, whatever the table's size, its energy is at most that of each
-- feasible written schedule, whatever denominators either has. The energies are those at a common scale, times the product of the gaps.
pub record IsCheapest (jobs : List Job) (slots : List WrittenSlot) : Type 0 where
  pub feasible : IsFeasible jobs slots
  pub at_most : (points : List Point) (others : List WrittenSlot) (scale : ℕ) → IsTable points → IsConvex points → IsFeasible jobs others →
      IsScale scale (slots ++ others) → interpolated_energy jobs points scale (slots_at scale slots) ≤ℤ interpolated_energy jobs points scale (slots_at scale others)

-- A written schedule that is least above every speed is cheapest.
abbrev pub LeastIsCheapestAmongWritten : Type 0
LeastIsCheapestAmongWritten = (jobs : List Job) (slots : List WrittenSlot) → IsLeast jobs slots → IsCheapest jobs slots

-- Two feasible written schedules have a common scale, so their energies can be compared.
abbrev pub FeasibleHaveACommonScale : Type 0
FeasibleHaveACommonScale = (jobs : List Job) (slots others : List WrittenSlot) → IsFeasible jobs slots → IsFeasible jobs others →
    (scale : ℕ) × IsScale scale (slots ++ others)

-- So has a plan's schedule, at each of its scales.
abbrev pub PlansCostLeast : Type 0
PlansCostLeast = (jobs : List Job) (slots : List WrittenSlot) (levels : List Level) (points : List Point) (scale : ℕ) (others : List WholeSlot) →
    IsPlan jobs slots levels → IsTable points → IsConvex points → IsScale scale slots → IsFeasibleAt jobs scale others →
    interpolated_energy jobs points scale (slots_at scale slots) ≤ℤ interpolated_energy jobs points scale others

-- A schedule whose slots have speeds of the table's points spends on them at least its energy by the table's lower hull.
abbrev pub PointsCostAtLeastTheHull : Type 0
PointsCostAtLeastTheHull = (jobs : List Job) (points hull : List Point) (scale energy : ℕ) (slots : List WholeSlot) → AreRising points →
    IsHullOf points hull → IsEnergyOnPoints jobs points scale slots energy →
    interpolated_energy jobs hull scale slots ≤ℤ pos (product (gaps_of hull) * energy)

-- So a plan's schedule, by the table's lower hull, has at most the energy that any feasible schedule spends on the table's points.
abbrev pub PlansCostLeastOnPoints : Type 0
PlansCostLeastOnPoints = (jobs : List Job) (slots : List WrittenSlot) (levels : List Level) (points hull : List Point) (scale energy : ℕ) (others : List WholeSlot) →
    IsPlan jobs slots levels → IsTable points → IsHullOf points hull → IsScale scale slots → IsFeasibleAt jobs scale others →
    IsEnergyOnPoints jobs points scale others energy →
    interpolated_energy jobs hull scale (slots_at scale slots) ≤ℤ pos (product (gaps_of hull) * energy)

-- The line between any two neighbours of a table gives a slot at most its energy: both times the product of the gaps, and times
-- those neighbours' gap.
abbrev pub LinesAreAtMostEnergy : Type 0
LinesAreAtMostEnergy = (points : List Point) (k time work : ℕ) → k + 1 < length points →
    (pos (product (gaps_of points)) *ℤ on_line (point_at points k) (point_at points (k + 1)) time work)
    ≤ℤ (pos ((point_at points (k + 1)).speed - (point_at points k).speed) *ℤ interpolated_power points time work)
