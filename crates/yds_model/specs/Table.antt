-- A table of operating points, each a speed and its power, and the table's lower hull: the points that least energy uses.
-- Two points around the ideal speed are enough: Ishihara and Yasuura (ISLPED 1998).
use Rattle.std.specs.Prelude.{◌≡◌, ℕ, ◌+◌, ◌-◌, ◌*◌, ◌<◌, ◌≤◌, ◌⊎◌, List, [], ◌∷◌, ◌++◌, length, Bool, nat_lt, if◌then◌else◌}
use Rattle.std.specs.List.{slice_index_or, list_any}
use Rattle.yds_model.specs.Divisor.{multiple_of_all}

pub record Point : Type 0 where
  pub speed : ℕ
  pub power : ℕ

abbrev pub no_point : Point
no_point = record { speed = 0; power = 0 }

abbrev pub point_at : List Point → ℕ → Point
point_at points i = slice_index_or points i no_point

-- each point is faster than the one before it
abbrev pub AreRising : List Point → Type 0
AreRising [] = Unit {0}
AreRising (point ∷ []) = Unit {0}
AreRising (point ∷ next ∷ points) = (point.speed < next.speed) × AreRising (next ∷ points)

-- a table: points of rising speed, the first of speed 0
pub record IsTable (points : List Point) : Type 0 where
  pub some : 1 ≤ length points
  pub idle : (point_at points 0).speed ≡ 0
  pub rising : AreRising points

-- The points around a speed are `low` and `high`. Times their distance, the line between them has the power
-- `low.power * (high.speed - speed) + high.power * (speed - low.speed)` at a speed between theirs.
abbrev pub IsOnOrBelow : Point → Point → Point → Type 0
IsOnOrBelow low high point =
    point.power * (high.speed - low.speed) ≤ low.power * (high.speed - point.speed) + high.power * (point.speed - low.speed)

abbrev pub IsAbove : Point → Point → Point → Type 0
IsAbove low high point =
    low.power * (high.speed - point.speed) + high.power * (point.speed - low.speed) < point.power * (high.speed - low.speed)

-- the slopes between neighbours never fall: no point lies above the line between its neighbours
abbrev pub IsConvex : List Point → Type 0
IsConvex [] = Unit {0}
IsConvex (point ∷ []) = Unit {0}
IsConvex (point ∷ next ∷ []) = Unit {0}
IsConvex (point ∷ next ∷ later ∷ points) = IsOnOrBelow point later next × IsConvex (next ∷ later ∷ points)

-- From `low` on, which is in the hull, the points go on to the last one, which is too. The next point of the hull is
-- reached, or a point is left out and lies above the line from `low` to it.
abbrev pub GoesOn : Point → List Point → List Point → Type 0
GoesOn low [] [] = Unit {0}
GoesOn low (point ∷ points) [] = ⊥
GoesOn low [] (high ∷ hull) = ⊥
GoesOn low (point ∷ points) (high ∷ hull) =
    ((point ≡ high) × GoesOn high points hull) ⊎ (IsAbove low high point × GoesOn low points (high ∷ hull))

-- the hull is a part of the points, in order, with the first and the last
abbrev pub IsPartOf : List Point → List Point → Type 0
IsPartOf [] [] = Unit {0}
IsPartOf (point ∷ points) [] = ⊥
IsPartOf [] (low ∷ hull) = ⊥
IsPartOf (point ∷ points) (low ∷ hull) = (point ≡ low) × GoesOn low points hull

-- The lower hull of points: the part of them that has the first and the last, is convex, and leaves out just the points
-- that lie above the line between their neighbours in that part.
pub record IsHullOf (points hull : List Point) : Type 0 where
  pub part : IsPartOf points hull
  pub convex : IsConvex hull

-- The speed p/q lies between those of the two points.
pub record IsAround (p q : ℕ) (low high : Point) : Type 0 where
  pub from_low : low.speed * q ≤ p
  pub to_high : p ≤ high.speed * q

-- q times the power at the speed p/q on the line between the two points, times their distance
abbrev pub interpolated : ℕ → ℕ → Point → Point → ℕ
interpolated p q low high = low.power * (high.speed * q - p) + high.power * (p - low.speed * q)

-- The hull, computed: a point is left out where it lies above the line between an earlier and a later point.
abbrev pub is_above : Point → Point → Point → Bool
is_above low high point =
    nat_lt (low.power * (high.speed - point.speed) + high.power * (point.speed - low.speed)) (point.power * (high.speed - low.speed))

abbrev pub is_left_out : List Point → Point → List Point → Bool
is_left_out earlier point later = list_any (λ low. list_any (λ high. is_above low high point) later) earlier

abbrev pub hull_after : List Point → List Point → List Point
hull_after earlier [] = []
hull_after earlier (point ∷ later) =
    if is_left_out earlier point later then hull_after (earlier ++ point ∷ []) later else point ∷ hull_after (earlier ++ point ∷ []) later

abbrev pub hull_of : List Point → List Point
hull_of points = hull_after [] points

-- the differences between the speeds of neighbours
abbrev pub gaps_of : List Point → List ℕ
gaps_of [] = []
gaps_of (point ∷ []) = []
gaps_of (point ∷ next ∷ points) = (next.speed - point.speed) ∷ gaps_of (next ∷ points)

-- the least common multiple of the gaps of the hull, 1 for one point
abbrev pub hull_multiple : List Point → ℕ
hull_multiple points = multiple_of_all (gaps_of (hull_of points))
