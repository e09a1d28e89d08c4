-- The lower hull, tried on the table of the speeds 0, 1, 2 and 4 whose powers are 0, 3, 4 and 10: the second point lies above the line from
-- the first to the third.
use Rattle.yds_model.proofs.Common.{◌≡◌, ℕ, List, [], ◌∷◌, refl, arith, Point, AreRising, IsConvex, IsHullOf, hull_multiple}
use Rattle.model_lemmas.proofs.HullOf.{hull_is_computed}
use Rattle.model_lemmas.proofs.HullExists.{hull_exists}

-- a point's speed and power
abbrev point : ℕ → ℕ → Point
point speed power = record { speed = speed; power = power }

-- the table
abbrev points : List Point
points = point 0 0 ∷ point 1 3 ∷ point 2 4 ∷ point 4 10 ∷ []

-- the points rise
rising : AreRising points
rising = (omega arith, (omega arith, (omega arith, tt)))

-- the hull leaves out the second one
hull : IsHullOf points (point 0 0 ∷ point 2 4 ∷ point 4 10 ∷ [])
hull = hull_exists points rising

-- so its gaps are 2 and 2
multiple : hull_multiple points ≡ 2
multiple = refl

-- the whole table isn't convex, so it isn't its hull
not_convex : IsConvex points → ⊥
not_convex convex = absurd (omega (arith, convex.0))

-- and to leave out the third point too is too much
too_few : IsHullOf points (point 0 0 ∷ point 4 10 ∷ []) → ⊥
too_few is = absurd (let same = hull_is_computed points (point 0 0 ∷ point 4 10 ∷ []) rising is in cc)

-- A point on the line between its neighbours is kept.
on_the_line : IsHullOf (point 0 0 ∷ point 1 1 ∷ point 2 2 ∷ []) (point 0 0 ∷ point 1 1 ∷ point 2 2 ∷ [])
on_the_line = hull_exists (point 0 0 ∷ point 1 1 ∷ point 2 2 ∷ []) (omega arith, (omega arith, tt))
