-- What the fields of a table are.
use Rattle.std.specs.Prelude.{◌≡◌, ℕ, ◌≤◌, List, length}
use Rattle.std.specs.List.{All}
use Rattle.base.specs.declared.limits.TheConstants.{MAX_GAPS}
use Rattle.yds_model.specs.Table.{Point, point_at, AreRising, IsHullOf, hull_of, hull_multiple}
use Rattle.yds_model.specs.Within.{IsPoint}
use Rattle.yds_table.specs.Table.{IsPointTable, last_of}

-- the hull of the points, and what it has from them
pub record IsLowerHull (points hull : List Point) : Type 0 where
  pub is_hull : IsHullOf points hull
  pub computed : hull ≡ hull_of points
  pub rising : AreRising hull
  pub some : 1 ≤ length hull
  pub few : length hull ≤ length points
  pub first : point_at hull 0 ≡ point_at points 0
  pub last : last_of hull ≡ last_of points
  pub limits : All IsPoint hull

pub record IsKept (points hull : List Point) (gaps : ℕ) : Type 0 where
  pub table : IsPointTable points
  pub lower : IsLowerHull points hull
  pub is_multiple : gaps ≡ hull_multiple points
  pub some : 1 ≤ gaps
  pub within : gaps ≤ MAX_GAPS
