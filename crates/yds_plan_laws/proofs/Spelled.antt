-- Fractions that are kept in the program's one spelling, with denominators that are equal or 1, are one fraction where they are the same.
use Rattle.yds_model.proofs.Common.{◌≡◌, ℕ, ◌+◌, ◌*◌, ◌<◌, ◌≤◌, sym, ap, ◌∙◌, arith, inl, inr, cases_order, mul-le-mul_right, eq_of_mul-eq-mul_right, Fraction, numerator, IsSame, AreAlike, WrittenSlot, WholeSlot, IsDivided, slot_at_scale}
use Rattle.yds_model.specs.Plan.{IsOver}
use Rattle.yds_model.specs.Within.{IsFraction, IsSlot}
use Rattle.fraction_lemmas.proofs.Fractions.{equality_of_values}

-- a fraction by its parts
abbrev by_parts : ℕ → ℕ → ℕ → Fraction
by_parts whole num den = record { whole = whole; num = num; den = den }

-- a number less than another one has no greater whole part
not_greater : (whole num other part den : ℕ) → num < den → whole * den + num ≡ other * den + part → other < whole + 1
not_greater whole num other part den below same = elim (cases_order other whole) [
  | inl equal ↦ omega (arith, equal)
  | inr (inl less) ↦ omega (arith, less)
  | inr (inr more) ↦
      let next : whole + 1 ≤ other = omega (arith, more) in
      absurd (omega (arith, mul-le-mul_right den next, same, below))
]

-- so numbers over one denominator have one whole part and one rest
parts_same : (whole num other part den : ℕ) → num < den → part < den → whole * den + num ≡ other * den + part → (whole ≡ other) × (num ≡ part)
parts_same whole num other part den below small same =
    let wholes : whole ≡ other = omega (arith, not_greater whole num other part den below same, not_greater other part whole num den small (sym same)) in
    (wholes, omega (arith, same, ap (λ n. n * den) wholes))

-- fractions over one denominator
over_one : (x y : Fraction) → x.num < x.den → y.num < y.den → x.den ≡ y.den → IsSame x y → x ≡ y
over_one x y below small dens same =
    let numbers : numerator x ≡ numerator y = eq_of_mul-eq-mul_right x.den (omega (arith, below)) (numerator x) (numerator y)
    (omega (arith, same, ap (λ n. numerator x * n) dens)) in
    let parts = parts_same x.whole x.num y.whole y.num x.den below (omega (arith, small, dens)) (omega (arith, numbers, ap (λ n. y.whole * n) dens)) in
    ap (λ (n : ℕ). by_parts n x.num x.den) parts.0 ∙ ap (λ (n : ℕ). by_parts y.whole n x.den) parts.1 ∙ ap (λ (n : ℕ). by_parts y.whole y.num n) dens

-- a whole one, and one that is as much, which is whole too
whole_too : (x y : Fraction) → x.num < x.den → y.num < y.den → (y.num ≡ 0 → y.den ≡ 1) → x.den ≡ 1 → IsSame x y → y.den ≡ 1
whole_too x y below small plain one same =
    let none : x.num ≡ 0 = omega (arith, below, one) in
    let whole : x.whole * y.den + 0 ≡ y.whole * y.den + y.num = omega (
      arith,
      same,
      ap (λ n. numerator y * n) one,
      ap (λ n. (x.whole * n + x.num) * y.den) one,
      ap (λ n. (x.whole * 1 + n) * y.den) none,
    ) in
    plain (sym (parts_same x.whole 0 y.whole y.num y.den (omega (arith, small)) small whole).1)

-- and all of them
spelled_once : (most more : ℕ) (x y : Fraction) → IsFraction most x → IsFraction more y → AreAlike x y → IsSame x y → x ≡ y
spelled_once most more x y is also (inl dens) same = over_one x y is.below_one also.below_one dens same
spelled_once most more x y is also (inr (inl one)) same =
    over_one x y is.below_one also.below_one (one ∙ sym (whole_too x y is.below_one also.below_one also.whole_is_plain one same)) same
spelled_once most more x y is also (inr (inr one)) same =
    over_one x y is.below_one also.below_one (whole_too y x also.below_one is.below_one is.whole_is_plain one (sym same) ∙ sym one) same

-- fractions that are whole or over one number are alike
over_alike : (den : ℕ) (x y : Fraction) → IsOver den x → IsOver den y → AreAlike x y
over_alike den x y (inl whole) other = inr (inl (ap (λ (z : Fraction). z.den) whole))
over_alike den x y (inr over) (inl whole) = inr (inr (ap (λ (z : Fraction). z.den) whole))
over_alike den x y (inr over) (inr same) = inl (over ∙ sym same)

-- a slot by its parts
abbrev written_of : ℕ → Fraction → Fraction → Fraction → WrittenSlot
written_of job from to work = record { job = job; from = from; to = to; work = work }

-- slots that are the same at a scale, with ends and works over the same numbers, are one
pub slot_spelled_once : (scale ends works : ℕ) (x y : WrittenSlot) → 1 ≤ scale → IsDivided scale x → IsDivided scale y → IsSlot x → IsSlot y →
    IsOver ends x.from → IsOver ends y.from → IsOver ends x.to → IsOver ends y.to → IsOver works x.work → IsOver works y.work →
    slot_at_scale scale x ≡ slot_at_scale scale y → x ≡ y
slot_spelled_once scale ends works x y positive is also fits fit from begin to end work done same =
    let job : x.job ≡ y.job = ap (λ (slot : WholeSlot). slot.job) same in
    let starts : x.from ≡ y.from = spelled_once _ _ x.from y.from fits.from fit.from (over_alike ends x.from y.from from begin)
    ((equality_of_values x.from y.from scale positive is.from also.from).1 (ap (λ (slot : WholeSlot). slot.from) same)) in
    let stops : x.to ≡ y.to = spelled_once _ _ x.to y.to fits.to fit.to (over_alike ends x.to y.to to end)
    ((equality_of_values x.to y.to scale positive is.to also.to).1 (ap (λ (slot : WholeSlot). slot.to) same)) in
    let works_same : x.work ≡ y.work = spelled_once _ _ x.work y.work fits.work fit.work (over_alike works x.work y.work work done)
    ((equality_of_values x.work y.work scale positive is.work also.work).1 (ap (λ (slot : WholeSlot). slot.work) same)) in
    ap (λ (n : ℕ). written_of n x.from x.to x.work) job ∙ ap (λ (f : Fraction). written_of y.job f x.to x.work) starts
    ∙ ap (λ (f : Fraction). written_of y.job y.from f x.work) stops ∙ ap (λ (f : Fraction). written_of y.job y.from y.to f) works_same
