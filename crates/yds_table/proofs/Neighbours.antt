-- The points of a hull around a speed.
use Rattle.yds_model.proofs.Common.{◌≡◌, ℕ, suc, zero, ◌+◌, ◌-◌, ◌*◌, ◌<◌, ◌≤◌, List, [], ◌∷◌, length, sym, ap, ◌∙◌, subst, arith, slice_index_or, get_or_read, le_refl, mul-le-mul_right, Quotient, Point, no_point, point_at, AreRising}
use Rattle.yds_table.specs.Table.{last_of}
use Rattle.yds_table.specs.Around.{IsAboveTop, AreNeighbours, IsFirstAtLeast}

-- no point is faster than the last
rises_to_last : (hull : List Point) (place : ℕ) → AreRising hull → place < length hull → (point_at hull place).speed ≤ (last_of hull).speed
rises_to_last [] place rising within = absurd (omega arith)
rises_to_last (only ∷ []) zero rising within = le_refl only.speed
rises_to_last (only ∷ []) (suc place) rising within = absurd (omega arith)
rises_to_last (first ∷ next ∷ hull) zero rising within =
    let here : suc (suc (length hull)) - 1 ≡ suc (suc (length hull) - 1) = omega arith in
    let P : ℕ → Type 0 = λ i. first.speed ≤ (point_at (first ∷ next ∷ hull) i).speed in
    let rest : next.speed ≤ (last_of (next ∷ hull)).speed = rises_to_last (next ∷ hull) zero rising.1 (omega arith) in
    let step : first.speed ≤ (last_of (next ∷ hull)).speed = omega (arith, rising.0) in
    subst P (sym here) step
rises_to_last (first ∷ next ∷ hull) (suc place) rising within =
    let here : suc (suc (length hull)) - 1 ≡ suc (suc (length hull) - 1) = omega arith in
    let P : ℕ → Type 0 = λ i. (point_at (next ∷ hull) place).speed ≤ (point_at (first ∷ next ∷ hull) i).speed in
    subst P (sym here) (rises_to_last (next ∷ hull) place rising.1 (omega arith))

-- a speed that some point of the hull has or exceeds isn't above the top
pub not_above : (points hull : List Point) (speed : Quotient) (place : ℕ) → last_of hull ≡ last_of points → AreRising hull → IsFirstAtLeast hull speed place →
    ¬ (IsAboveTop points speed)
not_above points hull speed place last rising at above =
    let top : (point_at hull place).speed ≤ (last_of points).speed = rw (← last) (rises_to_last hull place rising at.within) in
    omega (arith, mul-le-mul_right speed.den top, at.fast_enough, above)

below : (a b : ℕ) → a ≤ b → ¬ (b ≡ a) → a < b
below a b within other = omega arith

pub neighbours : (hull : List Point) (speed : Quotient) (place : ℕ) (low high : Point) → IsFirstAtLeast hull speed place → (point_at hull 0).speed ≡ 0 →
    low ≡ slice_index_or hull (place - 1) low → high ≡ slice_index_or hull place high → ¬ (high.speed * speed.den ≡ speed.num) →
    AreNeighbours hull speed low high
neighbours hull speed zero low high at idle is_low is_high other =
    let first : high.speed ≡ 0 = ap (λ (x : Point). x.speed) (get_or_read hull 0 high at.within is_high no_point) ∙ idle in
    let none : speed.num ≤ 0 * speed.den = subst (λ (n : ℕ). speed.num ≤ n * speed.den) idle at.fast_enough in
    absurd (other (ap (λ n. n * speed.den) first ∙ omega arith))
neighbours hull speed (suc place) low high at idle is_low is_high other =
    let here : suc place - 1 ≡ place = omega arith in
    let next : suc place ≡ place + 1 = omega arith in
    let before : low ≡ slice_index_or hull place low = subst (λ (n : ℕ). low ≡ slice_index_or hull n low) here is_low in
    let lower : low ≡ point_at hull place = get_or_read hull place low (omega (arith, at.within)) before no_point in
    let higher : high ≡ point_at hull (suc place) = get_or_read hull (suc place) high at.within is_high no_point in
    let fast : speed.num ≤ high.speed * speed.den = rw higher at.fast_enough in
    record {
      place = place;
      within = omega (arith, at.within);
      is_low = sym lower;
      is_high = ap (λ (n : ℕ). point_at hull n) (sym next) ∙ sym higher;
      above_low = rw lower (at.slower place (omega arith));
      below_high = below speed.num (high.speed * speed.den) fast other;
    }
