-- The end of a hull that grows by one point at a time: points that come off it, and the point that is pushed.
use Rattle.yds_model.proofs.Common.{◌≡◌, ℕ, ◌-◌, ◌<◌, ◌≤◌, List, [], ◌∷◌, ◌++◌, length, zero, suc, refl, sym, ap, ◌∙◌, subst, inl, inr, arith, Option, Some, None, option_to_list, slice_index_or, All, get_or_push, get_or_read, append-nil, get_or_append_left, length-append, All-pop, Point, no_point, point_at, AreRising, IsOnOrBelow, IsAbove, IsConvex, GoesOn, IsPoint}
use Rattle.model_lemmas.proofs.Hull.{RisesFrom, rises_from, rising_again, rises_below}
use Rattle.model_lemmas.proofs.HullExists.{over_last}
use Rattle.yds_hull.specs.Ends.{EndsAbove, StaysPart}

-- # Order

-- the last two points and the next one rise
pub end_rises : (hull : List Point) (next : Point) (k : ℕ) → AreRising (hull ++ next ∷ []) → suc (suc k) ≡ length hull →
    ((point_at hull k).speed < (point_at hull (suc k)).speed) × ((point_at hull (suc k)).speed < next.speed)
end_rises [] next k rising end = absurd (omega arith)
end_rises (low ∷ []) next k rising end = absurd (omega arith)
end_rises (low ∷ high ∷ []) next zero rising end = (rising.0, rising.1.0)
end_rises (low ∷ high ∷ []) next (suc k) rising end = absurd (omega arith)
end_rises (low ∷ high ∷ later ∷ hull) next zero rising end = absurd (omega arith)
end_rises (low ∷ high ∷ later ∷ hull) next (suc k) rising end = end_rises (high ∷ later ∷ hull) next k rising.1 (omega arith)

-- the same, as the code reads the last two points
pub read_end_rises : (hull : List Point) (low last next : Point) → AreRising (hull ++ next ∷ []) → 2 ≤ length hull →
    low ≡ slice_index_or hull (length hull - 2) low → last ≡ slice_index_or hull (length hull - 1) last →
    (low.speed < last.speed) × (last.speed < next.speed)
read_end_rises hull low last next rising two low_is last_is =
    let here : suc (length hull - 2) ≡ length hull - 1 = omega arith in
    let low_at : low ≡ point_at hull (length hull - 2) = get_or_read hull (length hull - 2) low (omega arith) low_is no_point in
    let last_at : last ≡ point_at hull (length hull - 1) = get_or_read hull (length hull - 1) last (omega arith) last_is no_point in
    let both : ((point_at hull (length hull - 2)).speed < (point_at hull (suc (length hull - 2))).speed) × ((point_at hull (suc (length hull - 2))).speed < next.speed) =
    end_rises hull next (length hull - 2) rising (omega arith) in
    rw (low_at, last_at, ← here) both

-- # A point comes off the end

goes_without : (low last next : Point) (points hull : List Point) → RisesFrom low.speed points → IsAbove (point_at (low ∷ hull) (length hull)) next last →
    GoesOn low points ((hull ++ last ∷ []) ++ next ∷ []) → GoesOn low points (hull ++ next ∷ [])
goes_without low last next [] [] rises above goes = goes
goes_without low last next (point ∷ points) [] rises above goes = over_last low last next (point ∷ points) [] rises above goes
goes_without low last next [] (high ∷ hull) rises above goes = goes
goes_without low last next (point ∷ points) (high ∷ hull) rises above (inl reached) =
    let P : Point → Type 0 = λ x. RisesFrom x.speed points in
    inl (reached.0, goes_without high last next points hull (subst P reached.0 rises.1) above reached.1)
goes_without low last next (point ∷ points) (high ∷ hull) rises above (inr left) =
    inr (left.0, goes_without low last next points (high ∷ hull) (rises_below low.speed point.speed points (omega arith) rises.1) above left.1)

part_without : (last next : Point) (hull : List Point) → EndsAbove (hull ++ last ∷ []) next → StaysPart (hull ++ last ∷ []) hull next
part_without last next [] ends points rising part = absurd (omega (arith, ends.two))
part_without last next (low ∷ hull) ends [] rising part = absurd part
part_without last next (low ∷ hull) ends (point ∷ points) rising part =
    let P : Point → Type 0 = λ x. RisesFrom x.speed points in
    let all : List Point = low ∷ hull ++ last ∷ [] in
    let long : length all ≡ suc (suc (length hull)) = omega (arith, length-append (low ∷ hull) (last ∷ [])) in
    let one : length all - 2 ≡ length hull = omega (arith, long) in
    let two : length all - 1 ≡ suc (length hull) = omega (arith, long) in
    let at_one : point_at all (length hull) ≡ point_at (low ∷ hull) (length hull) = get_or_append_left (low ∷ hull) (last ∷ []) no_point (length hull) (omega arith) in
    let at_two : point_at all (suc (length hull)) ≡ last = get_or_push (low ∷ hull) last no_point (suc (length hull)) refl in
    (part.0, goes_without low last next points hull (subst P part.0 (rises_from point points rising)) (rw (one, two, at_one, at_two) at ends.above) part.1)

rises_without : (last next : Point) (hull : List Point) (speed : ℕ) → RisesFrom speed ((hull ++ last ∷ []) ++ next ∷ []) → RisesFrom speed (hull ++ next ∷ [])
rises_without last next [] speed rises = rises_below speed last.speed (next ∷ []) (omega arith) rises.1
rises_without last next (point ∷ hull) speed rises = (rises.0, rises_without last next hull point.speed rises.1)

rising_without : (last next : Point) (hull : List Point) → AreRising ((hull ++ last ∷ []) ++ next ∷ []) → AreRising (hull ++ next ∷ [])
rising_without last next [] rising = tt
rising_without last next (point ∷ hull) rising =
    rising_again point (hull ++ next ∷ []) (rises_without last next hull point.speed (rises_from point ((hull ++ last ∷ []) ++ next ∷ []) rising))

convex_without : (last : Point) (hull : List Point) → IsConvex (hull ++ last ∷ []) → IsConvex hull
convex_without last [] convex = tt
convex_without last (point ∷ []) convex = tt
convex_without last (point ∷ next ∷ []) convex = tt
convex_without last (point ∷ next ∷ later ∷ hull) convex = (convex.0, convex_without last (next ∷ later ∷ hull) convex.1)

-- What the loop that takes points off keeps, from the hull that it began with.
pub record Keeps (first hull : List Point) (next : Point) : Type 0 where
  pub rising : AreRising (hull ++ next ∷ [])
  pub convex : IsConvex hull
  pub part : StaysPart first hull next
  pub limits : All IsPoint first → All IsPoint hull

pub keeps_popped : (first hull left seen : List Point) (popped : Option Point) (next : Point) → hull ≡ left ++ option_to_list popped → seen ≡ hull →
    Keeps first hull next → EndsAbove seen next → Keeps first left next
keeps_popped first hull left seen None next split same keeps ends =
    let P : List Point → Type 0 = λ x. Keeps first x next in subst P (split ∙ append-nil left) keeps
keeps_popped first hull left seen (Some last) next split same keeps ends =
    let P : List Point → Type 0 = λ x. Keeps first x next in
    let Q : List Point → Type 0 = λ x. EndsAbove x next in
    let all : Keeps first (left ++ last ∷ []) next = subst P split keeps in
    record {
      rising = rising_without last next left all.rising;
      convex = convex_without last left all.convex;
      part = λ points rising part. part_without last next left (subst Q (same ∙ split) ends) points rising (all.part points rising part);
      limits = λ known. (All-pop IsPoint (left ++ last ∷ []) left (Some last) refl (all.limits known)).0;
    }

-- # A point is pushed

convex_pushed : (hull : List Point) (next : Point) → IsConvex hull →
    ((k : ℕ) → suc (suc k) ≡ length hull → IsOnOrBelow (point_at hull k) next (point_at hull (suc k))) → IsConvex (hull ++ next ∷ [])
convex_pushed [] next convex below = tt
convex_pushed (point ∷ []) next convex below = tt
convex_pushed (point ∷ last ∷ []) next convex below = (below 0 refl, tt)
convex_pushed (point ∷ last ∷ later ∷ hull) next convex below =
    (convex.0, convex_pushed (last ∷ later ∷ hull) next convex.1 (λ k end. below (suc k) (ap suc end)))

not_less : (m n : ℕ) → (m < n → ⊥) → n ≤ m
not_less m n none = omega arith

pub convex_kept : (hull seen : List Point) (next : Point) → seen ≡ hull → IsConvex hull → (EndsAbove seen next → ⊥) → IsConvex (hull ++ next ∷ [])
convex_kept hull seen next same convex not_above = convex_pushed hull next convex (λ k end.
    let one : length hull - 2 ≡ k = omega arith in
    let two : length hull - 1 ≡ suc k = omega arith in
    not_less _ _ (λ (above : IsAbove (point_at hull k) next (point_at hull (suc k))).
    let ends : EndsAbove hull next = record { two = omega arith; above = rw (one, two) above } in
    let P : List Point → Type 0 = λ x. EndsAbove x next in not_above (subst P (sym same) ends)))
