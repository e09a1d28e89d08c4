-- Whole parts first, and then the parts below one, is the order of the values.
use Rattle.yds_model.proofs.Common.{◌≡◌, ℕ, ◌+◌, ◌*◌, ◌<◌, ◌≤◌, ap, sym, ◌∙◌, refl, arith, Ordering, Less, Equal, Greater, MatchOrdering, nat_cmp, ordering_then, ◌∣◌, nat_cmp_is, ranked, mul-le-mul_right, mul-lt-mul_of_pos_right, Fraction, Quotient, at_scale, numerator, IsLess, IsSame, IsLessQuotient, IsSameQuotient}
use Rattle.fraction_lemmas.proofs.Fractions.{order_of_values, equality_of_values}
use Rattle.yds_fraction.specs.ValueOrder.{parts, quotient_cmp, fraction_cmp, OrderOfQuotients, OrderOfFractions}
use Rattle.yds_fraction.proofs.WithinLimits.{some_parts}
use Rattle.yds_fraction.specs.Mixed.{IsMixed, AtScales}

-- the lesser whole part is below by one at least
lesser_whole : (w n d v m e : ℕ) → n < d → 1 ≤ e → w < v → (w * d + n) * e < (v * e + m) * d
lesser_whole w n d v m e below some lesser = grind (arith, mul-le-mul_right, mul-lt-mul_of_pos_right)

MatchOrdering-whole_first : (w n d v m e : ℕ) → n < d → m < e → (whole rest : Ordering) →
    MatchOrdering whole (w < v) (w ≡ v) (v < w) → MatchOrdering rest (n * e < m * d) (n * e ≡ m * d) (m * d < n * e) →
    MatchOrdering (ordering_then whole rest) ((w * d + n) * e < (v * e + m) * d) ((w * d + n) * e ≡ (v * e + m) * d) ((v * e + m) * d < (w * d + n) * e)
MatchOrdering-whole_first w n d v m e below_n below_m Less rest p q = lesser_whole w n d v m e below_n (omega arith) p
MatchOrdering-whole_first w n d v m e below_n below_m Greater rest p q = lesser_whole v m e w n d below_m (omega arith) p
MatchOrdering-whole_first w n d v m e below_n below_m Equal Less p q = rw p (omega (arith, q))
MatchOrdering-whole_first w n d v m e below_n below_m Equal Equal p q = rw p (omega (arith, q))
MatchOrdering-whole_first w n d v m e below_n below_m Equal Greater p q = rw p (omega (arith, q))

parts-of_some : (den : ℕ) → 1 ≤ den → parts den ≡ den
parts-of_some den some = omega arith

quotient_cmp-of_some : (x y : Quotient) → 1 ≤ x.den → 1 ≤ y.den → quotient_cmp x y ≡ nat_cmp (x.num * y.den) (y.num * x.den)
quotient_cmp-of_some x y some_x some_y =
    ap (λ d. nat_cmp (x.num * d) (y.num * parts x.den)) (parts-of_some y.den some_y) ∙ ap (λ d. nat_cmp (x.num * y.den) (y.num * d)) (parts-of_some x.den some_x)

pub whole_first : (most_den : ℕ) (x y : Fraction) → IsMixed most_den x → IsMixed most_den y →
    ordering_then (nat_cmp x.whole y.whole) (nat_cmp (x.num * y.den) (y.num * x.den)) ≡ fraction_cmp x y
whole_first most_den x y kept_x kept_y =
    let whole = nat_cmp x.whole y.whole in
    let rest = nat_cmp (x.num * y.den) (y.num * x.den) in
    nat_cmp_is (numerator x * y.den) (numerator y * x.den) (ordering_then whole rest)
    (MatchOrdering-whole_first x.whole x.num x.den y.whole y.num y.den kept_x.fraction.below_one kept_y.fraction.below_one whole rest
    (ranked x.whole y.whole whole refl) (ranked (x.num * y.den) (y.num * x.den) rest refl))
    ∙ sym (quotient_cmp-of_some (record { num = numerator x; den = x.den }) (record { num = numerator y; den = y.den }) (some_parts _ kept_x.fraction) (some_parts _ kept_y.fraction))

-- the answer of `cmp` says how the values stand
pub MatchOrdering-quotients : (x y : Quotient) (r : Ordering) → 1 ≤ x.den → 1 ≤ y.den → r ≡ quotient_cmp x y →
    MatchOrdering r (IsLessQuotient x y) (IsSameQuotient x y) (IsLessQuotient y x)
MatchOrdering-quotients x y r some_x some_y e =
    ranked (x.num * y.den) (y.num * x.den) r (e ∙ quotient_cmp-of_some x y some_x some_y)

pub MatchOrdering-fractions : (x y : Fraction) (r : Ordering) → 1 ≤ x.den → 1 ≤ y.den → r ≡ fraction_cmp x y →
    MatchOrdering r (IsLess x y) (IsSame x y) (IsLess y x)
MatchOrdering-fractions x y r some_x some_y e =
    MatchOrdering-quotients (record { num = numerator x; den = x.den }) (record { num = numerator y; den = y.den }) r some_x some_y e

pub compared : (most_den : ℕ) (x y : Fraction) (r : Ordering) → IsMixed most_den x → IsMixed most_den y →
    r ≡ ordering_then (nat_cmp x.whole y.whole) (nat_cmp (x.num * y.den) (y.num * x.den)) → r ≡ fraction_cmp x y
compared most_den x y r kept_x kept_y e = e ∙ whole_first most_den x y kept_x kept_y

order_at : (x y : Fraction) (scale : ℕ) (r : Ordering) → 1 ≤ scale → x.den ∣ scale → y.den ∣ scale →
    MatchOrdering r (IsLess x y) (IsSame x y) (IsLess y x) →
    MatchOrdering r (at_scale scale x < at_scale scale y) (at_scale scale x ≡ at_scale scale y) (at_scale scale y < at_scale scale x)
order_at x y scale Less positive dx dy h = (order_of_values x y scale positive dx dy).0 h
order_at x y scale Equal positive dx dy h = (equality_of_values x y scale positive dx dy).0 h
order_at x y scale Greater positive dx dy h = (order_of_values y x scale positive dy dx).0 h

-- the answer of `cmp` and `==` at each common scale
pub order_at_scales : (x y : Fraction) (r : Ordering) → MatchOrdering r (IsLess x y) (IsSame x y) (IsLess y x) →
    AtScales x y (λ scale. MatchOrdering r (at_scale scale x < at_scale scale y) (at_scale scale x ≡ at_scale scale y) (at_scale scale y < at_scale scale x))
order_at_scales x y r h scale positive dx dy = order_at x y scale r positive dx dy h

pub order_of_quotients : OrderOfQuotients
order_of_quotients x y some_x some_y = MatchOrdering-quotients x y (quotient_cmp x y) some_x some_y refl

pub order_of_fractions : OrderOfFractions
order_of_fractions x y some_x some_y = MatchOrdering-fractions x y (fraction_cmp x y) some_x some_y refl
