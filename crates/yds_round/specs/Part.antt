-- The numbers in which one part of a split is written.
use Rattle.std.specs.Prelude.{◌≡◌, ℕ, ◌*◌, ◌≤◌}
use Rattle.base.specs.declared.limits.TheConstants.{MAX_DENOMINATOR, MAX_POINT_SPEED}
use Rattle.yds_model.specs.Divisor.{common_multiple}
use Rattle.yds_round.specs.declared.part.Part.{Part}

-- A level's works are in parts of 1/unit, and the part runs at this speed, one of two that differ by `gap`.
pub record IsPart (unit gap speed : ℕ) (part : Part) : Type 0 where
  pub is_den : part.den ≡ unit * common_multiple speed gap
  pub is_step : part.step * speed ≡ common_multiple speed gap
  pub is_switch : part.switch * gap ≡ common_multiple speed gap
  pub some : 1 ≤ part.den
  pub den_in_range : part.den ≤ MAX_DENOMINATOR
  pub step_in_range : part.step ≤ MAX_POINT_SPEED
  pub switch_in_range : part.switch ≤ MAX_POINT_SPEED
