-- The exact values that the operators of `Mixed` give, over a common denominator.
use Rattle.yds_model.proofs.Common.{◌≡◌, ℕ, Bool, true, false, eqb-true, ◌+◌, ◌-◌, ◌*◌, ◌/◌, ◌%◌, ◌<◌, ◌≤◌, ◌⊎◌, inl, inr, max, ap, subst, sym, ◌∙◌, refl, arith, ◌==◌, if◌then◌else◌, ◌∣◌, cases_lt, dvd_trans, one-dvd, div-le_of_le-mul, mul_comm, mul-le-mul_left, eq_of_mul-eq-mul_right, div-add-mod, le_of_mul-le-mul_right, mul-le-mul_right, lt_of_mul-lt-mul_right, mul-pos, Fraction, at_scale, numerator, AreAlike, IsSame, IsSum, IsMultiple}
use Rattle.fraction_lemmas.proofs.Fractions.{equality_of_values, sum_of_values, multiple_of_values}
use Rattle.yds_fraction.proofs.WithinLimits.{some_parts}
use Rattle.yds_fraction.specs.Mixed.{IsMixed, fraction_of, IsInParts, AtScalesWith, common_den, whole_of_sum, CanAdd, Adds, CanSubtract, Subtracts, whole_of_multiple, Multiplies, SumCarriesOne, MultipleCarriesFactor}

-- a fraction of denominator d over another denominator g: either d is g, or the fraction is whole
rebased : (w n d g : ℕ) → (d ≡ g) ⊎ (n ≡ 0) → (w * d + n) * g ≡ (w * g + n) * d
rebased w n d g (inl e) = rw e
rebased w n d g (inr e) = rw e (omega arith)

common_left : (most_den : ℕ) (x y : Fraction) → IsMixed most_den x → IsMixed most_den y → AreAlike x y → (x.den ≡ common_den x y) ⊎ (x.num ≡ 0)
common_left most_den x y kept_x kept_y (inl same) = inl (omega arith)
common_left most_den x y kept_x kept_y (inr (inl one)) = inr (omega arith)
common_left most_den x y kept_x kept_y (inr (inr one)) = inl (omega arith)

common_right : (most_den : ℕ) (x y : Fraction) → IsMixed most_den x → IsMixed most_den y → AreAlike x y → (y.den ≡ common_den x y) ⊎ (y.num ≡ 0)
common_right most_den x y kept_x kept_y (inl same) = inl (omega arith)
common_right most_den x y kept_x kept_y (inr (inl one)) = inl (omega arith)
common_right most_den x y kept_x kept_y (inr (inr one)) = inr (omega arith)

written_by : (whole num den : ℕ) (plain : Bool) → (num == 0) ≡ plain →
    (whole * (if plain then 1 else den) + num) * den ≡ (whole * den + num) * (if plain then 1 else den)
written_by whole num den true e = let none : num ≡ 0 = eqb-true num 0 e in rw none (omega arith)
written_by whole num den false e = refl

-- the value of what is written
pub written : (whole num den : ℕ) → numerator (fraction_of whole num den) * den ≡ (whole * den + num) * (fraction_of whole num den).den
written whole num den = written_by whole num den (num == 0) refl

-- P/g and Q/g have the sum (P + Q)/g
sum_by : (p q x y z d e f g : ℕ) → 1 ≤ g → x * g ≡ p * d → y * g ≡ q * e → z * g ≡ (p + q) * f → z * (d * e) ≡ (x * e + y * d) * f
sum_by p q x y z d e f g some hx hy hz =
    let left : z * (d * e) * g ≡ (p + q) * f * d * e = omega (arith, ap (λ n. n * (d * e)) hz) in
    let right : (x * e + y * d) * f * g ≡ (p + q) * f * d * e = omega (arith, ap (λ n. n * (e * f)) hx, ap (λ n. n * (d * f)) hy) in
    eq_of_mul-eq-mul_right g some (z * (d * e)) ((x * e + y * d) * f) (left ∙ sym right)

some_common : (most_den : ℕ) (x y : Fraction) → IsMixed most_den x → 1 ≤ common_den x y
some_common most_den x y kept = let some = some_parts _ kept.fraction in omega arith

carried : (a n g : ℕ) → (a + n / g) * g + n % g ≡ a * g + n
carried a n g = omega (arith, div-add-mod n g)

pub IsSum-written : (most_den : ℕ) (x y : Fraction) → IsMixed most_den x → IsMixed most_den y → AreAlike x y →
    IsSum x y (fraction_of (whole_of_sum x y) ((x.num + y.num) % common_den x y) (common_den x y))
IsSum-written most_den x y kept_x kept_y alike =
    let g = common_den x y in
    let z = fraction_of (whole_of_sum x y) ((x.num + y.num) % g) g in
    let whole : (whole_of_sum x y) * g + (x.num + y.num) % g ≡ (x.whole * g + x.num) + (y.whole * g + y.num) =
    carried (x.whole + y.whole) (x.num + y.num) g ∙ omega arith in
    sum_by (x.whole * g + x.num) (y.whole * g + y.num) (numerator x) (numerator y) (numerator z) x.den y.den z.den g (some_common most_den x y kept_x)
    (rebased x.whole x.num x.den g (common_left most_den x y kept_x kept_y alike))
    (rebased y.whole y.num y.den g (common_right most_den x y kept_x kept_y alike))
    (written (whole_of_sum x y) ((x.num + y.num) % g) g ∙ ap (λ n. n * z.den) whole)

-- what is written in parts that divide a scale has a denominator that divides it
divides_by : (den scale : ℕ) (plain : Bool) → den ∣ scale → (if plain then 1 else den) ∣ scale
divides_by den scale true divides = one-dvd scale
divides_by den scale false divides = divides

greater_divides : (d e scale : ℕ) → d ∣ scale → e ∣ scale → (d < e) ⊎ (e ≤ d) → max d e ∣ scale
greater_divides d e scale divides_d divides_e (inl lesser) = let is : e ≡ max d e = omega arith in subst (λ (n : ℕ). n ∣ scale) is divides_e
greater_divides d e scale divides_d divides_e (inr others) = let is : d ≡ max d e = omega arith in subst (λ (n : ℕ). n ∣ scale) is divides_d

common_divides : (x y : Fraction) (num scale : ℕ) → x.den ∣ scale → y.den ∣ scale → (if num == 0 then 1 else common_den x y) ∣ scale
common_divides x y num scale dx dy =
    divides_by (common_den x y) scale (num == 0) (greater_divides x.den y.den scale dx dy (cases_lt x.den y.den))

-- the values at each common scale
sum_at_scales : (x y z : Fraction) → IsInParts (common_den x y) z → IsSum x y z →
    AtScalesWith x y z (λ scale. at_scale scale z ≡ at_scale scale x + at_scale scale y)
sum_at_scales x y z parts sum scale positive dx dy =
    let dz : z.den ∣ scale = subst (λ (d : ℕ). d ∣ scale) (sym parts) (common_divides x y z.num scale dx dy) in
    (dz, (sum_of_values x y z scale positive dx dy dz).0 sum)

difference_at_scales : (x y z : Fraction) → IsInParts (common_den x y) z → IsSum z y x →
    AtScalesWith x y z (λ scale. at_scale scale z + at_scale scale y ≡ at_scale scale x)
difference_at_scales x y z parts sum scale positive dx dy =
    let dz : z.den ∣ scale = subst (λ (d : ℕ). d ∣ scale) (sym parts) (common_divides x y z.num scale dx dy) in
    (dz, sym ((sum_of_values z y x scale positive dz dy dx).0 sum))

multiple_at_scales : (k : ℕ) (x z : Fraction) → IsInParts x.den z → IsMultiple k x z →
    AtScalesWith x x z (λ scale. at_scale scale z ≡ k * at_scale scale x)
multiple_at_scales k x z parts multiple scale positive dx _ =
    let dz : z.den ∣ scale = subst (λ (d : ℕ). d ∣ scale) (sym parts) (divides_by x.den scale (z.num == 0) dx) in
    (dz, (multiple_of_values k x z scale positive dx dz).0 multiple)

-- each part is below one, so the parts of a sum carry one at most
carry_small : (n m g : ℕ) → n < g → m < g → (n + m) / g ≤ 1
carry_small n m g below_n below_m = grind (arith, div-add-mod)

pub Adds-written : (most_den : ℕ) (x y z : Fraction) → IsMixed most_den x → IsMixed most_den y → CanAdd x y →
    z ≡ fraction_of (whole_of_sum x y) ((x.num + y.num) % common_den x y) (common_den x y) → IsMixed most_den z → Adds most_den x y z
Adds-written most_den x y z kept_x kept_y can e kept =
    let below_x = kept_x.fraction.below_one in
    let below_y = kept_y.fraction.below_one in
    let carry = carry_small x.num y.num (common_den x y) (omega arith) (omega arith) in
    let sum = IsSum-written most_den x y kept_x kept_y can.alike in
    subst (λ (w : Fraction). Adds most_den x y w) (sym e) (record {
      sum = sum;
      at_scales = sum_at_scales x y (fraction_of (whole_of_sum x y) ((x.num + y.num) % common_den x y) (common_den x y)) refl sum;
      parts = refl;
      whole = omega arith;
      kept = subst (IsMixed most_den) e kept;
    })

regrouped : (k w n d : ℕ) → k * w * d + k * n ≡ k * (w * d + n)
regrouped k w n d = omega arith

-- k times a fraction, carried
pub Multiplies-written : (most_den k : ℕ) (x z : Fraction) → IsMixed most_den x →
    z ≡ fraction_of (whole_of_multiple k x) ((k * x.num) % x.den) x.den → IsMixed most_den z → Multiplies most_den x k z
Multiplies-written most_den k x z kept_x e kept =
    let w = fraction_of (whole_of_multiple k x) ((k * x.num) % x.den) x.den in
    let multiple : IsMultiple k x w = written (whole_of_multiple k x) ((k * x.num) % x.den) x.den
    ∙ ap (λ n. n * w.den) (carried (k * x.whole) (k * x.num) x.den ∙ regrouped k x.whole x.num x.den) in
    subst (λ (r : Fraction). Multiplies most_den x k r) (sym e) (record {
      multiple = multiple;
      at_scales = multiple_at_scales k x w refl multiple;
      parts = refl;
      whole = refl;
      kept = subst (IsMixed most_den) e kept;
    })

-- the order of two fractions is that of their parts over a common denominator
at_most_common : (p q x y d e g : ℕ) → 1 ≤ d → 1 ≤ e → x * g ≡ p * d → y * g ≡ q * e → y * d ≤ x * e → q ≤ p
at_most_common p q x y d e g some_d some_e hx hy at_most =
    let left : y * d * g ≡ q * (d * e) = omega (arith, ap (λ n. n * d) hy) in
    let right : x * e * g ≡ p * (d * e) = omega (arith, ap (λ n. n * e) hx) in
    le_of_mul-le-mul_right (rw (← left, ← right) (mul-le-mul_right g at_most)) (mul-pos some_d some_e)

parts_at_most : (most_den : ℕ) (x y : Fraction) → IsMixed most_den x → IsMixed most_den y → CanSubtract x y →
    y.whole * common_den x y + y.num ≤ x.whole * common_den x y + x.num
parts_at_most most_den x y kept_x kept_y can =
    let g = common_den x y in
    at_most_common (x.whole * g + x.num) (y.whole * g + y.num) (numerator x) (numerator y) x.den y.den g (some_parts _ kept_x.fraction) (some_parts _ kept_y.fraction)
    (rebased x.whole x.num x.den g (common_left most_den x y kept_x kept_y can.alike))
    (rebased y.whole y.num y.den g (common_right most_den x y kept_x kept_y can.alike))
    can.at_most

whole_at_most : (w v n m g : ℕ) → v * g + m ≤ w * g + n → n < g → v ≤ w
whole_at_most w v n m g at_most below =
    let next : v < w + 1 = lt_of_mul-lt-mul_right g (omega arith) in omega arith

whole_below : (w v n m g : ℕ) → v * g + m ≤ w * g + n → n < m → v < w
whole_below w v n m g at_most below = lt_of_mul-lt-mul_right g (omega arith)

-- what is left, and the one that was taken
taken : (w v n m g left rest : ℕ) → left + v ≡ w → rest + m ≡ n → (left * g + rest) + (v * g + m) ≡ w * g + n
taken w v n m g left rest e f = omega (arith, ap (λ k. k * g) e)

borrowed : (w v n m g left rest : ℕ) → left + 1 + v ≡ w → rest + m ≡ n + g → (left * g + rest) + (v * g + m) ≡ w * g + n
borrowed w v n m g left rest e f = omega (arith, ap (λ k. k * g) e)

left_over : (most_den left rest : ℕ) (x y z : Fraction) → IsMixed most_den x → IsMixed most_den y → AreAlike x y → left ≤ x.whole →
    (left * common_den x y + rest) + (y.whole * common_den x y + y.num) ≡ x.whole * common_den x y + x.num →
    z ≡ fraction_of left rest (common_den x y) → IsMixed most_den z → Subtracts most_den x y z
left_over most_den left rest x y z kept_x kept_y alike small total e kept =
    let g = common_den x y in
    let w = fraction_of left rest g in
    let difference : IsSum w y x =
    sum_by (left * g + rest) (y.whole * g + y.num) (numerator w) (numerator y) (numerator x) w.den y.den x.den g (some_common most_den x y kept_x)
    (written left rest g)
    (rebased y.whole y.num y.den g (common_right most_den x y kept_x kept_y alike))
    (rebased x.whole x.num x.den g (common_left most_den x y kept_x kept_y alike) ∙ ap (λ n. n * x.den) (sym total)) in
    subst (λ (r : Fraction). Subtracts most_den x y r) (sym e) (record {
      difference = difference;
      at_scales = difference_at_scales x y w refl difference;
      parts = refl;
      whole = small;
      kept = subst (IsMixed most_den) e kept;
    })

pub Subtracts-plain : (most_den : ℕ) (x y z : Fraction) → IsMixed most_den x → IsMixed most_den y → CanSubtract x y → y.num ≤ x.num →
    z ≡ fraction_of (x.whole - y.whole) (x.num - y.num) (common_den x y) → IsMixed most_den z → Subtracts most_den x y z
Subtracts-plain most_den x y z kept_x kept_y can enough e kept =
    let g = common_den x y in
    let below = kept_x.fraction.below_one in
    let whole = whole_at_most x.whole y.whole x.num y.num g (parts_at_most most_den x y kept_x kept_y can) (omega arith) in
    left_over most_den (x.whole - y.whole) (x.num - y.num) x y z kept_x kept_y can.alike (omega arith)
    (taken x.whole y.whole x.num y.num g (x.whole - y.whole) (x.num - y.num) (omega arith) (omega arith)) e kept

pub Subtracts-borrowed : (most_den : ℕ) (x y z : Fraction) → IsMixed most_den x → IsMixed most_den y → CanSubtract x y → x.num < y.num →
    z ≡ fraction_of (x.whole - y.whole - 1) (x.num + common_den x y - y.num) (common_den x y) → IsMixed most_den z → Subtracts most_den x y z
Subtracts-borrowed most_den x y z kept_x kept_y can short e kept =
    let g = common_den x y in
    let below = kept_y.fraction.below_one in
    let whole = whole_below x.whole y.whole x.num y.num g (parts_at_most most_den x y kept_x kept_y can) short in
    left_over most_den (x.whole - y.whole - 1) (x.num + g - y.num) x y z kept_x kept_y can.alike (omega arith)
    (borrowed x.whole y.whole x.num y.num g (x.whole - y.whole - 1) (x.num + g - y.num) (omega arith) (omega arith)) e kept

pub sum_carries_one : SumCarriesOne
sum_carries_one x y below_x below_y =
    let carry = carry_small x.num y.num (common_den x y) (omega arith) (omega arith) in omega arith

pub multiple_carries_factor : MultipleCarriesFactor
multiple_carries_factor k x below = grind (arith, div-le_of_le-mul, mul-le-mul_left, mul_comm)

-- the same value at each scale of x
pub same_at_scales : (x z : Fraction) → z.den ∣ x.den → IsSame x z → AtScalesWith x x z (λ scale. at_scale scale z ≡ at_scale scale x)
same_at_scales x z divides same scale positive dx _ = grind (arith, dvd_trans, equality_of_values)
