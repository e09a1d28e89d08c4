-- How a level runs on the points of a table.
use Rattle.std.specs.Prelude.{ℕ, List, Option, Some, None}
use Rattle.std.specs.List.{Any, slice_index_or}
use Rattle.yds_model.specs.Level.{Level}
use Rattle.yds_model.specs.Table.{Point, hull_of}
use Rattle.yds_model.specs.Rounding.{HasPointSpeed, AreNeighbours}
use Rattle.yds_round.specs.declared.split.Split.{Split}
use Rattle.yds_round.specs.Split.{IsSplitOf}

-- it runs at these two neighbours of the hull
pub record RunsAtTwo (points : List Point) (level : Level) (split : Split) : Type 0 where
  pub low : Point
  pub high : Point
  pub around : AreNeighbours (hull_of points) level low high
  pub numbers : IsSplitOf level low high split

-- at a point of the hull that has its speed, or split between two
abbrev pub RunsAs : List Point → Level → Option Split → Type 0
RunsAs points level None = Any (HasPointSpeed level) (hull_of points)
RunsAs points level (Some split) = RunsAtTwo points level split

abbrev pub pace_at : List (Option Split) → ℕ → Option Split
pace_at paces i = slice_index_or paces i None
