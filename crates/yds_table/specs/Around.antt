-- The points of a hull around a speed.
use Rattle.std.specs.Prelude.{◌≡◌, ℕ, ◌+◌, ◌*◌, ◌<◌, ◌≤◌, ◌⊎◌, List, length}
use Rattle.std.specs.List.{Contains}
use Rattle.yds_model.specs.Scale.{Quotient}
use Rattle.yds_model.specs.Table.{Point, point_at}
use Rattle.yds_table.specs.Table.{last_of}

-- the speed is above that of the last point
abbrev pub IsAboveTop : List Point → Quotient → Type 0
IsAboveTop points speed = (last_of points).speed * speed.den < speed.num

-- both are the point of the hull that has the speed
pub record AreOnePoint (hull : List Point) (speed : Quotient) (low high : Point) : Type 0 where
  pub same : low ≡ high
  pub in_hull : Contains hull low
  pub has_speed : speed.num ≡ low.speed * speed.den

-- they are neighbours in the hull, below and above the speed
pub record AreNeighbours (hull : List Point) (speed : Quotient) (low high : Point) : Type 0 where
  pub place : ℕ
  pub within : place + 1 < length hull
  pub is_low : point_at hull place ≡ low
  pub is_high : point_at hull (place + 1) ≡ high
  pub above_low : low.speed * speed.den < speed.num
  pub below_high : speed.num < high.speed * speed.den

abbrev pub AreAround : List Point → Quotient → Point → Point → Type 0
AreAround hull speed low high = AreOnePoint hull speed low high ⊎ AreNeighbours hull speed low high

abbrev pub IsPointBelow : Quotient → Point → Type 0
IsPointBelow speed point = point.speed * speed.den < speed.num

-- the place of the first point that is at least as fast as this
pub record IsFirstAtLeast (points : List Point) (speed : Quotient) (place : ℕ) : Type 0 where
  pub within : place < length points
  pub slower : (k : ℕ) → k < place → IsPointBelow speed (point_at points k)
  pub fast_enough : speed.num ≤ (point_at points place).speed * speed.den
