-- How long a load runs at the points of a hull around its speed.
use Rattle.std.specs.Prelude.{◌≡◌, ℕ, ◌-◌, ◌*◌, ◌/◌, ◌<◌, ◌≤◌, List, length, ◌==◌, if◌then◌else◌}
use Rattle.yds_model.specs.Table.{Point, point_at}
use Rattle.yds_model.specs.Comparison.{time_at}
use Rattle.yds_spending.specs.declared.load.Load.{Load}
use Rattle.yds_spending.specs.declared.time_share.TimeShare.{TimeShare}

-- the time at the point of this speed
abbrev pub time_share_at : TimeShare → ℕ → ℕ
time_share_at share speed = if speed == share.high then share.fast else (if speed == share.low then share.slow else 0)

-- at each speed it is the time of the definition, and at most all the time
pub record IsShareOf (multiple : ℕ) (hull : List Point) (load : Load) (share : TimeShare) : Type 0 where
  pub each : (speed : ℕ) → time_share_at share speed ≡ time_at multiple load.time load.work hull speed
  pub in_range : (speed : ℕ) → time_share_at share speed ≤ load.time * multiple

-- the times at these two points
pub record IsShareBetween (multiple : ℕ) (load : Load) (low high : Point) (share : TimeShare) : Type 0 where
  pub is_low : share.low ≡ low.speed
  pub is_high : share.high ≡ high.speed
  pub fast : share.fast ≡ (load.work - low.speed * load.time) * (multiple / (high.speed - low.speed))
  pub slow : share.slow ≡ load.time * multiple - share.fast
  pub fast_in_range : share.fast ≤ load.time * multiple

abbrev pub IsBelow : Load → Point → Type 0
IsBelow load point = point.speed * load.time < load.work

-- the place of the first point that is fast enough for the load
pub record IsFirstHolding (points : List Point) (load : Load) (place : ℕ) : Type 0 where
  pub within : place < length points
  pub slower : (k : ℕ) → k < place → IsBelow load (point_at points k)
  pub fast_enough : load.work ≤ (point_at points place).speed * load.time
