-- The laws of the energy of parts. Each is the contract of a public function of this crate.
use Rattle.std.specs.Prelude.{◌≡◌, ℕ, ◌+◌, ◌*◌, ◌≤◌, List, ◌++◌, length, pos, ◌+ℤ◌}
use Rattle.yds_model.specs.Job.{Job}
use Rattle.yds_model.specs.Slot.{WholeSlot}
use Rattle.yds_model.specs.Feasible.{IsFeasibleAt}
use Rattle.yds_model.specs.Table.{Point, point_at, gaps_of}
use Rattle.yds_model.specs.Energy.{product, interpolated_energy, IsEnergyOnPoints}
use Rattle.yds_parts.specs.Parts.{ArePartedAt, together_at, gap_between, WindowsAreForward}

-- Both parts have jobs, and a feasible schedule at a scale.
pub record AreScheduled (time scale : ℕ) (first second : List Job) (slots others : List WholeSlot) : Type 0 where
  pub parted : ArePartedAt time first second
  pub some : 1 ≤ length first
  pub some_later : 1 ≤ length second
  pub first_windows : WindowsAreForward first
  pub second_windows : WindowsAreForward second
  pub feasible : IsFeasibleAt first scale slots
  pub later_feasible : IsFeasibleAt second scale others

-- what the first point costs between the two parts, at a scale
abbrev pub cost_between : List Point → ℕ → List Job → List Job → ℕ
cost_between points scale first second = (point_at points 0).power * (scale * gap_between first second)

-- By any table the interpolated energy is that of the first part, that of the second, and what the first point costs between them.
abbrev pub EnergyOfParts : Type 0
EnergyOfParts = (time scale : ℕ) (first second : List Job) (points : List Point) (slots others : List WholeSlot) → AreScheduled time scale first second slots others →
    interpolated_energy (first ++ second) points scale (together_at first slots others)
    ≡ (interpolated_energy first points scale slots +ℤ interpolated_energy second points scale others)
    +ℤ pos (product (gaps_of points) * cost_between points scale first second)

-- On the points of a table too.
abbrev pub EnergyOnPointsOfParts : Type 0
EnergyOnPointsOfParts = (time scale one other : ℕ) (first second : List Job) (points : List Point) (slots others : List WholeSlot) →
    AreScheduled time scale first second slots others → IsEnergyOnPoints first points scale slots one → IsEnergyOnPoints second points scale others other →
    IsEnergyOnPoints (first ++ second) points scale (together_at first slots others) (one + other + cost_between points scale first second)
