-- The least common multiple of the gaps between points, within its limit.
use Rattle.std.specs.Prelude.{◌≡◌, ℕ, ◌≤◌, List}
use Rattle.base.specs.declared.limits.TheConstants.{MAX_GAPS}
use Rattle.yds_model.specs.Divisor.{multiple_of_all}
use Rattle.yds_model.specs.Table.{Point, gaps_of}

pub record IsMultipleOf (points : List Point) (multiple : ℕ) : Type 0 where
  pub is : multiple ≡ multiple_of_all (gaps_of points)
  pub some : 1 ≤ multiple
  pub within : multiple ≤ MAX_GAPS
