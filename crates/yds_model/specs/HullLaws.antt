-- The laws of the lower hull. Each is the contract of a public function of `yds_energy`.
use Rattle.std.specs.Prelude.{◌≡◌, ℕ, ◌+◌, ◌-◌, ◌*◌, ◌<◌, ◌≤◌, List, length}
use Rattle.yds_model.specs.Table.{Point, point_at, AreRising, IsHullOf, IsAround, interpolated, hull_of}

-- Hull: at each speed, the power on the line between two neighbours of the hull is at most that on the line between any two
-- of the points.
abbrev pub HullIsLowest : Type 0
HullIsLowest = (points hull : List Point) (p q i j k : ℕ) → AreRising points → IsHullOf points hull → 1 ≤ q →
    i < j → j < length points → IsAround p q (point_at points i) (point_at points j) →
    k + 1 < length hull → IsAround p q (point_at hull k) (point_at hull (k + 1)) →
    interpolated p q (point_at hull k) (point_at hull (k + 1)) * ((point_at points j).speed - (point_at points i).speed)
    ≤ interpolated p q (point_at points i) (point_at points j) * ((point_at hull (k + 1)).speed - (point_at hull k).speed)

-- Hull: a table has one hull, the one that `hull_of` computes.
abbrev pub HullIsComputed : Type 0
HullIsComputed = (points hull : List Point) → AreRising points → IsHullOf points hull → hull ≡ hull_of points

-- Hull: and for points of rising speed that is a hull, so there is one.
abbrev pub HullExists : Type 0
HullExists = (points : List Point) → AreRising points → IsHullOf points (hull_of points)
