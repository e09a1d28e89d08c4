-- The hull of the first points, as one more of them comes, and what a hull has from the points that it is a part of.
use Rattle.yds_model.proofs.Common.{◌≡◌, ℕ, ◌+◌, ◌-◌, ◌<◌, ◌≤◌, List, [], ◌∷◌, ◌++◌, length, zero, suc, refl, sym, ap, ◌∙◌, subst, inl, inr, arith, take, slice_index_or, All, take_more, take_all, All-push, Point, point_at, AreRising, IsConvex, GoesOn, IsPartOf, IsHullOf, IsPoint}
use Rattle.model_lemmas.proofs.Hull.{RisesFrom, rises_from, rising_again, hull_rises}
use Rattle.yds_hull.specs.Ends.{StaysPart}

goes_pushed : (low next : Point) (points hull : List Point) → GoesOn low points hull → GoesOn low (points ++ next ∷ []) (hull ++ next ∷ [])
goes_pushed low next [] [] goes = inl (refl, tt)
goes_pushed low next [] (high ∷ hull) goes = absurd goes
goes_pushed low next (point ∷ points) [] goes = absurd goes
goes_pushed low next (point ∷ points) (high ∷ hull) (inl reached) = inl (reached.0, goes_pushed high next points hull reached.1)
goes_pushed low next (point ∷ points) (high ∷ hull) (inr left) = inr (left.0, goes_pushed low next points (high ∷ hull) left.1)

pub part_pushed : (next : Point) (points hull : List Point) → IsPartOf points hull → IsPartOf (points ++ next ∷ []) (hull ++ next ∷ [])
part_pushed next [] [] part = (refl, tt)
part_pushed next [] (low ∷ hull) part = absurd part
part_pushed next (point ∷ points) [] part = absurd part
part_pushed next (point ∷ points) (low ∷ hull) part = (part.0, goes_pushed low next points hull part.1)

-- # A part of rising points

pub part_rises : (points hull : List Point) → AreRising points → IsPartOf points hull → AreRising hull
part_rises [] [] rising part = tt
part_rises [] (low ∷ hull) rising part = absurd part
part_rises (point ∷ points) [] rising part = absurd part
part_rises (point ∷ points) (low ∷ hull) rising part =
    let P : Point → Type 0 = λ x. RisesFrom x.speed points in
    rising_again low hull (hull_rises low points hull low.speed (subst P part.0 (rises_from point points rising)) part.1)

goes_few : (low : Point) (points hull : List Point) → GoesOn low points hull → length hull ≤ length points
goes_few low [] [] goes = omega arith
goes_few low [] (high ∷ hull) goes = absurd goes
goes_few low (point ∷ points) [] goes = absurd goes
goes_few low (point ∷ points) (high ∷ hull) (inl reached) = omega (arith, goes_few high points hull reached.1)
goes_few low (point ∷ points) (high ∷ hull) (inr left) = omega (arith, goes_few low points (high ∷ hull) left.1)

pub part_few : (points hull : List Point) → IsPartOf points hull → length hull ≤ length points
part_few [] [] part = omega arith
part_few [] (low ∷ hull) part = absurd part
part_few (point ∷ points) [] part = absurd part
part_few (point ∷ points) (low ∷ hull) part = omega (arith, goes_few low points hull part.1)

goes_last : (low : Point) (points hull : List Point) → GoesOn low points hull →
    point_at (low ∷ hull) (length hull) ≡ point_at (low ∷ points) (length points)
goes_last low [] [] goes = refl
goes_last low [] (high ∷ hull) goes = absurd goes
goes_last low (point ∷ points) [] goes = absurd goes
goes_last low (point ∷ points) (high ∷ hull) (inl reached) =
    goes_last high points hull reached.1 ∙ ap (λ (x : Point). point_at (x ∷ points) (length points)) (sym reached.0)
goes_last low (point ∷ []) (high ∷ hull) (inr left) = absurd left.1
goes_last low (point ∷ next ∷ points) (high ∷ hull) (inr left) = goes_last low (next ∷ points) (high ∷ hull) left.1

pub part_last : (points hull : List Point) → IsPartOf points hull → point_at hull (length hull - 1) ≡ point_at points (length points - 1)
part_last [] [] part = refl
part_last [] (low ∷ hull) part = absurd part
part_last (point ∷ points) [] part = absurd part
part_last (point ∷ points) (low ∷ hull) part =
    let one : length (low ∷ hull) - 1 ≡ length hull = omega arith in
    let two : length (point ∷ points) - 1 ≡ length points = omega arith in
    rw (one, two) (goes_last low points hull part.1 ∙ ap (λ (x : Point). point_at (x ∷ points) (length points)) (sym part.0))

-- # One more point

rises_take : (n speed : ℕ) (points : List Point) → RisesFrom speed points → RisesFrom speed (take n points)
rises_take zero speed points rises = tt
rises_take (suc n) speed [] rises = tt
rises_take (suc n) speed (point ∷ points) rises = (rises.0, rises_take n point.speed points rises.1)

rising_take : (n : ℕ) (points : List Point) → AreRising points → AreRising (take n points)
rising_take zero points rising = tt
rising_take (suc n) [] rising = tt
rising_take (suc n) (point ∷ points) rising = rising_again point (take n points) (rises_take n point.speed points (rises_from point points rising))

-- what the loop over the points keeps, at the point i
pub record Grows (points : List Point) (i : ℕ) (kept : List Point) : Type 0 where
  pub hull : IsHullOf (take i points) kept
  pub limits : All IsPoint kept

pub read_more : (points : List Point) (i : ℕ) (point : Point) → i < length points → point ≡ slice_index_or points i point →
    take (i + 1) points ≡ take i points ++ point ∷ []
read_more points i point within is = take_more points i point within ∙ ap (λ (x : Point). take i points ++ x ∷ []) (sym is)

rising_more : (points : List Point) (i : ℕ) (point : Point) → i < length points → point ≡ slice_index_or points i point → AreRising points →
    AreRising (take i points ++ point ∷ [])
rising_more points i point within is rising = subst AreRising (read_more points i point within is) (rising_take (i + 1) points rising)

pub pushed_rises : (points hull : List Point) (i : ℕ) (point : Point) → i < length points → point ≡ slice_index_or points i point → AreRising points →
    IsHullOf (take i points) hull → AreRising (hull ++ point ∷ [])
pushed_rises points hull i point within is rising is_hull =
    part_rises (take i points ++ point ∷ []) (hull ++ point ∷ []) (rising_more points i point within is rising) (part_pushed point (take i points) hull is_hull.part)

pub grows_pushed : (points hull left : List Point) (i : ℕ) (point : Point) → i < length points → point ≡ slice_index_or points i point → AreRising points →
    Grows points i hull → StaysPart hull left point → IsConvex (left ++ point ∷ []) → All IsPoint left → IsPoint point →
    Grows points (i + 1) (left ++ point ∷ [])
grows_pushed points hull left i point within is rising grows stays convex limits limit = record {
  hull = rw (read_more points i point within is) (record {
    part = stays (take i points ++ point ∷ []) (rising_more points i point within is rising) (part_pushed point (take i points) hull grows.hull.part);
    convex = convex;
  });
  limits = All-push IsPoint left point limits limit;
}

pub whole : (points hull : List Point) (i : ℕ) → length points ≤ i → Grows points i hull → IsHullOf points hull
whole points hull i end grows = let P : List Point → Type 0 = λ x. IsHullOf x hull in subst P (take_all i points end) grows.hull
