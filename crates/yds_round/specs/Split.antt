-- The numbers of a level whose speed lies between those of two points.
use Rattle.std.specs.Prelude.{◌≡◌, ◌+◌, ◌*◌, ◌<◌, ◌≤◌, max}
use Rattle.base.specs.declared.limits.TheConstants.{MAX_LEVEL_LENGTH, MAX_LEVEL_WORK, MAX_POINT_SPEED}
use Rattle.yds_model.specs.Level.{Level}
use Rattle.yds_model.specs.Table.{Point}
use Rattle.yds_model.specs.Plan.{speed_num, speed_den}
use Rattle.yds_round.specs.declared.split.Split.{Split}
use Rattle.yds_round.specs.Part.{IsPart}

-- what a split keeps, whatever level it is of
pub record IsSplit (split : Split) : Type 0 where
  pub some_den : 1 ≤ split.den
  pub den_in_range : split.den ≤ MAX_LEVEL_LENGTH
  pub some_gap : 1 ≤ split.gap
  pub is_gap : split.low + split.gap ≡ split.high
  pub speed_in_range : split.high ≤ MAX_POINT_SPEED
  pub some_surplus : 1 ≤ split.surplus
  pub below_high : split.surplus < split.den * split.gap
  pub work_in_range : split.surplus + split.low * split.den ≤ MAX_LEVEL_WORK
  pub fast : IsPart split.den split.gap split.high split.fast
  pub slow : IsPart split.den split.gap (max split.low 1) split.slow

-- the split of this level between these points
pub record IsSplitOf (level : Level) (slower faster : Point) (split : Split) : Type 0 where
  pub kept : IsSplit split
  pub is_low : split.low ≡ slower.speed
  pub is_high : split.high ≡ faster.speed
  pub is_den : split.den ≡ speed_den level
  pub is_surplus : split.surplus + slower.speed * speed_den level ≡ speed_num level
