-- What order, equality, sum and multiple of fractions say of their values at a scale.
use Rattle.std.proofs.Common.{◌≡◌, ℕ, zero, suc, ◌+◌, ◌*◌, ◌/◌, ◌<◌, ◌≤◌, ◌⊎◌, ap, arith, mul_right_comm}
use Rattle.std.specs.Prelude.{◌↔◌}
use Rattle.std.specs.Int.{◌∣◌}
use Rattle.std.proofs.Math.Nat.{div-mul_cancel, mul-pos, mul-lt-mul_of_pos_right, lt_of_mul-lt-mul_right, eq_of_mul-eq-mul_right, le_of_mul-le-mul_right, mul-le-mul_right}
use Rattle.std.proofs.lemmas.Bool.{cases_lt}
use Rattle.yds_model.specs.Scale.{Fraction, at_scale, numerator, of_parts, AreAlike, IsAtMost}
use Rattle.yds_model.specs.ScaleLaws.{OrderIsOfValues, EqualityIsOfValues, SumIsOfValues, MultipleIsOfValues, OrderIsTransitive, EqualityIsTransitive, OrderAgreesWithEquality}

-- both factors of a product that isn't 0 are at least 1
pub factors : (one other product : ℕ) → one * other ≡ product → 1 ≤ product → (1 ≤ one) × (1 ≤ other)
factors zero other product is some = absurd (omega arith)
factors (suc one) zero product is some = absurd (omega arith)
factors (suc one) (suc other) product is some = (omega arith, omega arith)

-- so a divisor of a scale is at least 1
pub den_positive : (scale d : ℕ) → 1 ≤ scale → d ∣ scale → 1 ≤ d
den_positive scale d positive divides = (factors (scale / d) d scale (div-mul_cancel d divides) positive).1

-- the value at a scale, times the denominator, is the numerator times the scale
scaled : (whole num d quotient scale : ℕ) → quotient * d ≡ scale → (whole * scale + num * quotient) * d ≡ (whole * d + num) * scale
scaled whole num d quotient scale e = omega (arith, ap (λ n. num * n) e)

-- so it is for a fraction whose denominator divides the scale
pub value-den : (scale : ℕ) (x : Fraction) → x.den ∣ scale → at_scale scale x * x.den ≡ numerator x * scale
value-den scale x divides = scaled x.whole x.num x.den (scale / x.den) scale (div-mul_cancel x.den divides)

-- numbers that are tied to two others by positive factors are ordered as those are
pub tied_order : (a b k s u v : ℕ) → 1 ≤ s → 1 ≤ k → u * k ≡ a * s → v * k ≡ b * s → (a < b ↔ (u < v))
tied_order a b k s u v some_s some_k e f = grind arith

-- and are equal as those are
pub tied_equality : (a b k s u v : ℕ) → 1 ≤ s → 1 ≤ k → u * k ≡ a * s → v * k ≡ b * s → (a ≡ b ↔ (u ≡ v))
tied_equality a b k s u v some_s some_k e f = grind arith

-- equations times a factor
times : (u d a s e : ℕ) → u * d ≡ a * s → u * (d * e) ≡ a * e * s
times u d a s e h = omega (arith, ap (λ n. n * e) h)

-- a value over a factor and its own denominator
value_over : (w c f g s : ℕ) → w * f ≡ c * s → w * (g * f) ≡ c * g * s
value_over w c f g s h = omega (arith, ap (λ n. n * g) h)

-- the law: order by cross products is the order of the values
pub order_of_values : OrderIsOfValues
order_of_values x y scale positive dx dy =
    tied_order (numerator x * y.den) (numerator y * x.den) (x.den * y.den) scale (at_scale scale x) (at_scale scale y)
    positive (mul-pos (den_positive scale x.den positive dx) (den_positive scale y.den positive dy))
    (times (at_scale scale x) x.den (numerator x) scale y.den (value-den scale x dx))
    (value_over (at_scale scale y) (numerator y) y.den x.den scale (value-den scale y dy))

-- the law: and equality is equality of the values
pub equality_of_values : EqualityIsOfValues
equality_of_values x y scale positive dx dy =
    tied_equality (numerator x * y.den) (numerator y * x.den) (x.den * y.den) scale (at_scale scale x) (at_scale scale y)
    positive (mul-pos (den_positive scale x.den positive dx) (den_positive scale y.den positive dy))
    (times (at_scale scale x) x.den (numerator x) scale y.den (value-den scale x dx))
    (value_over (at_scale scale y) (numerator y) y.den x.den scale (value-den scale y dy))

-- two values together, over three denominators
sum_over : (u v a b d e f s : ℕ) → u * d ≡ a * s → v * e ≡ b * s → (u + v) * (d * e * f) ≡ (a * e + b * d) * f * s
sum_over u v a b d e f s h k = omega (arith, ap (λ n. n * (e * f)) h, ap (λ n. n * (d * f)) k)

-- the law: a sum by cross products is the sum of the values
pub sum_of_values : SumIsOfValues
sum_of_values x y z scale positive dx dy dz =
    tied_equality (numerator z * (x.den * y.den)) ((numerator x * y.den + numerator y * x.den) * z.den) (x.den * y.den * z.den) scale
    (at_scale scale z) (at_scale scale x + at_scale scale y)
    positive (mul-pos (mul-pos (den_positive scale x.den positive dx) (den_positive scale y.den positive dy)) (den_positive scale z.den positive dz))
    (value_over (at_scale scale z) (numerator z) z.den (x.den * y.den) scale (value-den scale z dz))
    (sum_over (at_scale scale x) (at_scale scale y) (numerator x) (numerator y) x.den y.den z.den scale (value-den scale x dx) (value-den scale y dy))

-- a multiple of a value, over both denominators
pub multiple_over : (k u a d f s : ℕ) → u * d ≡ a * s → k * u * (d * f) ≡ k * a * f * s
multiple_over k u a d f s h = omega (arith, ap (λ n. k * (n * f)) h)

-- the law: a multiple by cross products is the multiple of the values
pub multiple_of_values : MultipleIsOfValues
multiple_of_values k x z scale positive dx dz =
    tied_equality (numerator z * x.den) (k * numerator x * z.den) (x.den * z.den) scale (at_scale scale z) (k * at_scale scale x)
    positive (mul-pos (den_positive scale x.den positive dx) (den_positive scale z.den positive dz))
    (value_over (at_scale scale z) (numerator z) z.den x.den scale (value-den scale z dz))
    (multiple_over k (at_scale scale x) (numerator x) x.den z.den scale (value-den scale x dx))

-- a/d < b/e and b/e < c/f give a/d < c/f
less_through : (a b c d e f : ℕ) → 1 ≤ d → 1 ≤ f → a * e < b * d → b * f < c * e → a * f < c * d
less_through a b c d e f some_d some_f one two =
    let first : a * e * f < b * d * f = mul-lt-mul_of_pos_right one some_f in
    let second : b * f * d < c * e * d = mul-lt-mul_of_pos_right two some_d in
    lt_of_mul-lt-mul_right e (omega arith)

-- the law of it
pub order_transitive : OrderIsTransitive
order_transitive x y z dx _ dz one two =
    less_through (numerator x) (numerator y) (numerator z) x.den y.den z.den dx dz one two

-- a/d = b/e and b/e = c/f give a/d = c/f
pub same_through : (a b c d e f : ℕ) → 1 ≤ e → a * e ≡ b * d → b * f ≡ c * e → a * f ≡ c * d
same_through a b c d e f some one two =
    let first : a * e * f ≡ b * d * f = ap (λ n. n * f) one in
    let second : b * f * d ≡ c * e * d = ap (λ n. n * d) two in
    eq_of_mul-eq-mul_right e some (a * f) (c * d) (omega arith)

-- the law of it
pub equality_transitive : EqualityIsTransitive
equality_transitive x y z _ dy _ one two =
    same_through (numerator x) (numerator y) (numerator z) x.den y.den z.den dy one two

-- b/e, which is a/d, stands to c/f as a/d does
alike_left : (a b c d e f : ℕ) → a * e ≡ b * d → b * f * d ≡ a * f * e
alike_left a b c d e f h = omega (arith, ap (λ n. n * f) h)

-- where a speed isn't above another one, and that isn't above a third, the first isn't above the third
pub at_most_still : (a b p q c d : ℕ) → 1 ≤ q → a * q ≤ p * b → p * d ≤ c * q → a * d ≤ c * b
at_most_still a b p q c d some first second =
    le_of_mul-le-mul_right {k = q} (omega (arith, mul-le-mul_right d first, mul-le-mul_right b second)) some

-- the law: equal fractions are ordered alike
pub order_agrees : OrderAgreesWithEquality
order_agrees x y z dx dy dz same =
    let left = alike_left (numerator x) (numerator y) (numerator z) x.den y.den z.den same in
    let right = mul_right_comm (numerator z) y.den x.den in (
      tied_order (numerator x * z.den) (numerator z * x.den) x.den y.den (numerator y * z.den) (numerator z * y.den) dy dx left right,
      tied_order (numerator z * x.den) (numerator x * z.den) x.den y.den (numerator z * y.den) (numerator y * z.den) dy dx right left,
    )

-- what is at most another is so at each common scale
pub at_most_of_values : (x y : Fraction) (scale : ℕ) → 1 ≤ scale → x.den ∣ scale → y.den ∣ scale →
    (IsAtMost x y ↔ (at_scale scale x ≤ at_scale scale y))
at_most_of_values x y scale positive dx dy = grind (arith, cases_lt, order_of_values)

-- the denominator of parts is 1 or the one that is given
pub parts_den : (parts den : ℕ) → ((of_parts parts den).den ≡ 1) ⊎ ((of_parts parts den).den ≡ den)
parts_den parts den = grind arith

-- so any two of one denominator are alike
pub parts_alike : (one other den : ℕ) → AreAlike (of_parts one den) (of_parts other den)
parts_alike one other den = grind arith
