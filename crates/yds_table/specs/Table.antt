-- What a table keeps: it is a table, of points as a document keeps them.
use Rattle.std.specs.Prelude.{◌-◌, List, length}
use Rattle.yds_model.specs.Table.{Point, point_at, IsTable}
use Rattle.yds_model.specs.Within.{ArePoints}

pub record IsPointTable (points : List Point) : Type 0 where
  pub table : IsTable points
  pub within : ArePoints points

-- the last point
abbrev pub last_of : List Point → Point
last_of points = point_at points (length points - 1)
