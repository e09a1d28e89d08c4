-- Each table has a hull: from the last point on, one point more at a time. A point is left out once it lies above the line from the
-- new point to the one after it.
use Rattle.std.proofs.Common.{◌≡◌, ℕ, ◌+◌, ◌-◌, ◌*◌, ◌<◌, List, [], ◌∷◌, refl, sym, subst, inl, inr, arith}
use Rattle.std.proofs.lemmas.Bool.{cases_lt}
use Rattle.std.proofs.Math.Nat.{mul-lt-mul_of_pos_left, lt_of_mul-lt-mul_left, mul-le-mul_left}
use Rattle.yds_model.specs.HullLaws.{HullExists}
use Rattle.yds_model.specs.Table.{Point, IsAbove, IsConvex, GoesOn, IsHullOf}
use Rattle.model_lemmas.proofs.Hull.{RisesFrom, rises_from, rises_below, next_rises, hull_rises, convex_tail}
use Rattle.model_lemmas.proofs.HullOf.{hull_is_computed}

-- # Points above lines

-- by the gaps u, v, w between four speeds and the powers there
later_above : (b n a x u v w : ℕ) → a * w + n * v < x * (v + w) → b * (v + w) + n * u < a * (u + v + w) → 0 < v + w →
    b * w + n * (u + v) < x * (u + v + w)
later_above b n a x u v w first second some =
    lt_of_mul-lt-mul_left (v + w) (omega (arith, mul-lt-mul_of_pos_left {k = u + v + w} first (omega arith), mul-le-mul_left w second))

-- the same where the middle one of the other three is above
earlier_above : (b n a x u v w : ℕ) → b * v + a * u < x * (u + v) → b * w + n * (u + v) < a * (u + v + w) → 0 < u + v →
    b * (v + w) + n * u < x * (u + v + w)
earlier_above b n a x u v w first second some =
    lt_of_mul-lt-mul_left (u + v) (omega (arith, mul-lt-mul_of_pos_left {k = u + v + w} first (omega arith), mul-le-mul_left u second))

-- above the line from low to high, and then above the line from there to high
above_later : (low mid point high : Point) → low.speed < mid.speed → mid.speed < point.speed → point.speed < high.speed →
    IsAbove low high mid → IsAbove mid high point → IsAbove low high point
above_later low mid point high one two three over_mid over_point =
    let u : ℕ = mid.speed - low.speed in
    let v : ℕ = point.speed - mid.speed in
    let w : ℕ = high.speed - point.speed in
    let vw : high.speed - mid.speed ≡ v + w = omega arith in
    let uv : point.speed - low.speed ≡ u + v = omega arith in
    let uvw : high.speed - low.speed ≡ u + v + w = omega arith in
    rw (uv, uvw) (later_above low.power high.power mid.power point.power u v w (rw vw at over_point) (rw (vw, uvw) at over_mid) (omega arith))

-- above the line from low to a point that is itself above the line to high
above_earlier : (low point mid high : Point) → low.speed < point.speed → point.speed < mid.speed → mid.speed < high.speed →
    IsAbove low high mid → IsAbove low mid point → IsAbove low high point
above_earlier low point mid high one two three over_mid over_point =
    let u : ℕ = point.speed - low.speed in
    let v : ℕ = mid.speed - point.speed in
    let w : ℕ = high.speed - mid.speed in
    let vw : high.speed - point.speed ≡ v + w = omega arith in
    let uv : mid.speed - low.speed ≡ u + v = omega arith in
    let uvw : high.speed - low.speed ≡ u + v + w = omega arith in
    rw (vw, uvw) (earlier_above low.power high.power mid.power point.power u v w (rw uv at over_point) (rw (uv, uvw) at over_mid) (omega arith))

-- # A point comes off a part

-- `last` comes off between `low` and `next`: first the points after it, then those before it
past_last : (low last next : Point) (points hull : List Point) → low.speed < last.speed → RisesFrom last.speed points → IsAbove low next last →
    GoesOn last points (next ∷ hull) → GoesOn low points (next ∷ hull)
past_last low last next [] hull gap rises above goes = goes
past_last low last next (point ∷ points) hull gap rises above (inl reached) = inl reached
past_last low last next (point ∷ points) hull gap rises above (inr left) =
    let later : point.speed < next.speed = next_rises last next points hull point.speed rises.1 left.1 in
    let rest : RisesFrom last.speed points = rises_below last.speed point.speed points (omega arith) rises.1 in
    inr (above_later low last point next gap rises.0 later above left.0, past_last low last next points hull gap rest above left.1)

-- so the point of a part that comes after `low` may be left out of it, where it lies above the line to the one after it
pub over_last : (low last next : Point) (points hull : List Point) → RisesFrom low.speed points → IsAbove low next last →
    GoesOn low points (last ∷ next ∷ hull) → GoesOn low points (next ∷ hull)
over_last low last next [] hull rises above goes = goes
over_last low last next (point ∷ points) hull rises above (inl reached) =
    let P : Point → Type 0 = λ x. (low.speed < x.speed) × RisesFrom x.speed points in
    let there : P last = subst P reached.0 rises in
    let Q : Point → Type 0 = λ x. IsAbove low next x in
    inr (subst Q (sym reached.0) above, past_last low last next points hull there.0 there.1 above reached.1)
over_last low last next (point ∷ points) hull rises above (inr left) =
    let before : point.speed < last.speed = next_rises low last points (next ∷ hull) point.speed rises.1 left.1 in
    let rest : RisesFrom low.speed points = rises_below low.speed point.speed points (omega arith) rises.1 in
    let after : RisesFrom low.speed (last ∷ next ∷ hull) = hull_rises low points (last ∷ next ∷ hull) low.speed rest left.1 in
    inr (above_earlier low point last next rises.0 before after.1.0 above left.0, over_last low last next points hull rest above left.1)

-- # One point more

-- a hull from `low` on, which is in it
record Hulls (low : Point) (points : List Point) : Type 0 where
  hull : List Point
  part : GoesOn low points hull
  convex : IsConvex (low ∷ hull)

-- from `low` on, the first points of a convex part are left out as long as they lie above the line to the next one
pruned : (low : Point) (points hull : List Point) → RisesFrom low.speed points → GoesOn low points hull → IsConvex hull → Hulls low points
pruned low points [] rises part convex = record { hull = []; part = part; convex = tt }
pruned low points (high ∷ []) rises part convex = record { hull = high ∷ []; part = part; convex = tt }
pruned low points (high ∷ next ∷ hull) rises part convex =
    let line : ℕ = low.power * (next.speed - high.speed) + next.power * (high.speed - low.speed) in
    elim (cases_lt line (high.power * (next.speed - low.speed))) [
      | inl above ↦ pruned low points (next ∷ hull) rises (over_last low high next points hull rises above part) (convex_tail high (next ∷ hull) convex)
      | inr below ↦ record { hull = high ∷ next ∷ hull; part = part; convex = (below, convex) }
    ]

-- so with one point more before it, which is the first
hull_from : (low : Point) (points : List Point) → RisesFrom low.speed points → Hulls low points
hull_from low [] rises = record { hull = []; part = tt; convex = tt }
hull_from low (point ∷ points) rises =
    let rest = hull_from point points rises.1 in
    pruned low (point ∷ points) (point ∷ rest.hull) rises (inl (refl, rest.part)) rest.convex

-- the law: there is a hull, and it is the one that is computed
pub hull_exists : HullExists
hull_exists [] rising = record { part = tt; convex = tt }
hull_exists (point ∷ points) rising =
    let some = hull_from point points (rises_from point points rising) in
    let is : IsHullOf (point ∷ points) (point ∷ some.hull) = record { part = (refl, some.part); convex = some.convex } in
    subst (IsHullOf (point ∷ points)) (hull_is_computed (point ∷ points) (point ∷ some.hull) rising is) is
