-- The laws of what parts spend on the operating points, where each stretch runs at one speed. Each is the contract of a public function
-- of this crate.
use Rattle.std.specs.Prelude.{◌≡◌, ℕ, ◌+◌, ◌*◌, List, ◌++◌, map, ◌==◌, if◌then◌else◌}
use Rattle.yds_model.specs.Job.{Job}
use Rattle.yds_model.specs.Slot.{WholeSlot}
use Rattle.yds_model.specs.Table.{Point, point_at, IsTable, hull_multiple}
use Rattle.yds_model.specs.Comparison.{all_time_at, all_energy, in_parts, Spent, IsSpentAt}
use Rattle.yds_parts.specs.Parts.{together_at, gap_between}
use Rattle.yds_parts.specs.EnergyOfParts.{AreScheduled, cost_between}

-- The time between the two parts at the point of this speed, in parts of the scale and of the hull's multiple: at the first point all of it.
abbrev pub time_between : List Point → ℕ → List Job → List Job → ℕ → ℕ
time_between points scale first second speed =
    if speed == (point_at points 0).speed then hull_multiple points * (scale * gap_between first second) else 0

-- The time at each point is that of the first part and that of the second; the first point has the time between them too.
abbrev pub TimesOfParts : Type 0
TimesOfParts = (time scale speed : ℕ) (first second : List Job) (points : List Point) (slots others : List WholeSlot) →
    AreScheduled time scale first second slots others → IsTable points →
    all_time_at (first ++ second) points scale (together_at first slots others) speed
    ≡ all_time_at first points scale slots speed + all_time_at second points scale others speed + time_between points scale first second speed

-- So the energy is the sum of theirs and of what the first point costs between them.
abbrev pub StretchEnergyOfParts : Type 0
StretchEnergyOfParts = (time scale : ℕ) (first second : List Job) (points : List Point) (slots others : List WholeSlot) →
    AreScheduled time scale first second slots others → IsTable points →
    all_energy (first ++ second) points scale (together_at first slots others)
    ≡ all_energy first points scale slots + all_energy second points scale others + hull_multiple points * cost_between points scale first second

-- what both parts spend together
abbrev pub spent_together : List Job → List Job → List Point → ℕ → List WholeSlot → List WholeSlot → Spent
spent_together first second points scale slots others = record {
  energy = in_parts points scale
      (all_energy first points scale slots + all_energy second points scale others + hull_multiple points * cost_between points scale first second);
  times = map (λ point. in_parts points scale
      (all_time_at first points scale slots point.speed + all_time_at second points scale others point.speed
      + time_between points scale first second point.speed)) points;
}

-- That is what the slots of both spend.
abbrev pub SpentOfParts : Type 0
SpentOfParts = (time scale : ℕ) (first second : List Job) (points : List Point) (slots others : List WholeSlot) →
    AreScheduled time scale first second slots others → IsTable points →
    IsSpentAt (first ++ second) points (spent_together first second points scale slots others) scale (together_at first slots others)
