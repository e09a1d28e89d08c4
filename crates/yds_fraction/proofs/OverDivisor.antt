-- Two numbers over their greatest common divisor.
use Rattle.yds_model.proofs.Common.{◌≡◌, ℕ, ◌+◌, ◌*◌, ◌/◌, ◌%◌, ◌<◌, ◌≤◌, ap, ap₂, subst, sym, ◌∙◌, refl, arith, Bool, true, false, eqb-true, ◌==◌, if◌then◌else◌, ◌∣◌, IsGcd, same_from_IsGcd, div-one, div-mul_cancel, div-le_self, one-dvd, mul-dvd-mul_left, dvd_of_mul-dvd-mul_left, dvd-mul_right, zero-mul, lt_of_mul-lt-mul_right, eq_of_mul-eq-mul_left, mul-add-div_right, mul-add-mod_self_right, common_divisor, in_lowest_terms, Fraction, Quotient, numerator, of_whole, of_parts, IsSame}
use Rattle.fraction_lemmas.proofs.Divisor.{divisor_is_greatest, lowest_terms_are_one}
use Rattle.fraction_lemmas.proofs.LowestTerms.{parts_value, lowest_is as in_lowest, lowest_same}
use Rattle.fraction_lemmas.proofs.Fractions.{factors, den_positive}
use Rattle.yds_fraction.specs.Ratio.{IsRatio}
use Rattle.yds_fraction.proofs.WithinLimits.{some_parts}
use Rattle.yds_fraction.specs.Mixed.{IsMixed, fraction_of}

-- a number of at least 1 has no common divisor 0 with another
pub IsGcd-positive : (n d g : ℕ) → 1 ≤ d → IsGcd n d g → 1 ≤ g
IsGcd-positive n d g some greatest = den_positive d g some greatest.1

-- a divisor of n/g, times g, divides n
times_divides : (e n g : ℕ) → g ∣ n → e ∣ n / g → g * e ∣ n
times_divides e n g divides of_part =
    let whole : g * (n / g) ≡ n = omega (arith, div-mul_cancel g divides) in
    subst (λ (m : ℕ). g * e ∣ m) whole (mul-dvd-mul_left e g of_part)

pub IsGcd-lowest : (n d g : ℕ) → 1 ≤ d → IsGcd n d g → IsGcd (n / g) (d / g) 1
IsGcd-lowest n d g some greatest = (
  one-dvd (n / g),
  one-dvd (d / g),
  λ e of_first of_second.
      let one : g ≡ g * 1 = omega arith in
      dvd_of_mul-dvd-mul_left e (IsGcd-positive n d g some greatest)
      (subst (λ (m : ℕ). g * e ∣ m) one (greatest.2 (g * e) (times_divides e n g greatest.0 of_first) (times_divides e d g greatest.1 of_second))),
)

pub same_lowest : (n d g : ℕ) → IsGcd n d g → n * (d / g) ≡ n / g * d
same_lowest n d g greatest =
    omega (arith, ap (λ m. m * (d / g)) (div-mul_cancel g greatest.0), ap (λ m. n / g * m) (div-mul_cancel g greatest.1))

pub parts_lowest : (n d g : ℕ) → 1 ≤ d → IsGcd n d g → 1 ≤ d / g
parts_lowest n d g some greatest = (factors (d / g) g d (div-mul_cancel g greatest.1) some).0

pub IsRatio-lowest : (most_num most_den num den g : ℕ) → IsRatio most_num most_den (record { num = num; den = den }) → IsGcd num den g →
    IsRatio most_num most_den (record { num = num / g; den = den / g })
IsRatio-lowest most_num most_den num den g kept greatest = grind (arith, div-le_self, parts_lowest)

-- a fraction in lowest terms is kept
plain_lowest : (num den g : ℕ) → 1 ≤ den → (num ≡ 0 → den ≡ 1) → IsGcd num den g → num / g ≡ 0 → den / g ≡ 1
plain_lowest num den g some plain greatest none = grind (arith, div-le_self, div-mul_cancel, parts_lowest, zero-mul)

lesser_lowest : (num den g : ℕ) → num < den → IsGcd num den g → num / g < den / g
lesser_lowest num den g below greatest =
    lt_of_mul-lt-mul_right g (rw (div-mul_cancel g greatest.0, div-mul_cancel g greatest.1) below)

pub IsMixed-lowest : (most_den whole num den g : ℕ) → IsMixed most_den (record { whole = whole; num = num; den = den }) → IsGcd num den g →
    IsMixed most_den (record { whole = whole; num = num / g; den = den / g })
IsMixed-lowest most_den whole num den g kept greatest =
    let small = div-le_self den g in
    let fraction = kept.fraction in
    let some = some_parts _ fraction in
    record {
      limit = kept.limit;
      fraction = record {
        whole_in_range = fraction.whole_in_range;
        below_one = lesser_lowest num den g fraction.below_one greatest;
        den_in_range = let in_range = fraction.den_in_range in omega arith;
        whole_is_plain = plain_lowest num den g some fraction.whole_is_plain greatest;
      };
      den_in_range = let in_range = kept.den_in_range in omega arith;
    }

pub IsSame-lowest : (whole num den g : ℕ) → IsGcd num den g → (whole * den + num) * (den / g) ≡ (whole * (den / g) + num / g) * den
IsSame-lowest whole num den g greatest = omega (arith, same_lowest num den g greatest)

pub parts_divide : (den g : ℕ) → g ∣ den → den / g ∣ den
parts_divide den g divides = subst (λ (n : ℕ). den / g ∣ n) (div-mul_cancel g divides) (dvd-mul_right (den / g) g)

-- an equal quotient that no number above 1 divides has the numbers over their greatest common divisor
pub lowest_is : (a b c d : ℕ) → 1 ≤ b → 1 ≤ d → a * d ≡ c * b → IsGcd c d 1 → (c ≡ a / common_divisor a b) × (d ≡ b / common_divisor a b)
lowest_is a b c d some_b some_d same lowest =
    let one : common_divisor c d ≡ 1 = same_from_IsGcd c d (common_divisor c d) 1 (divisor_is_greatest c d) lowest in
    let terms = lowest_terms_are_one a b c d some_b some_d same in
    (sym (terms.0 ∙ ap (λ n. c / n) one ∙ div-one c), sym (terms.1 ∙ ap (λ n. d / n) one ∙ div-one d))

-- a quotient that no number above 1 divides, as parts, is an equal one in lowest terms
pub speed_reduced : (num den : ℕ) (x : Quotient) → 1 ≤ den → num * x.den ≡ x.num * den → 1 ≤ x.den → IsGcd x.num x.den 1 →
    of_parts x.num x.den ≡ in_lowest_terms num den
speed_reduced num den x some same parts lowest =
    let terms = lowest_is num den x.num x.den some parts same lowest in
    ap₂ (λ n d. of_parts n d) terms.0 terms.1

-- and so is a fraction that equals so many parts
pub reduced_is : (parts den : ℕ) (x : Fraction) → 1 ≤ den → IsSame (of_parts parts den) x → IsGcd x.num x.den 1 → x.num < x.den → x ≡ in_lowest_terms parts den
reduced_is parts den x some same lowest below =
    let first = of_parts parts den in
    let value = parts_value parts den some in
    let quotient : numerator x * den ≡ parts * x.den =
    eq_of_mul-eq-mul_left first.den value.has_parts (numerator x * den) (parts * x.den) (omega (arith, ap (λ n. n * x.den) value.same, ap (λ n. n * den) same)) in
    let reduced = same_from_IsGcd x.num x.den (common_divisor x.num x.den) 1 (divisor_is_greatest x.num x.den) lowest in
    sym (in_lowest x (record { below_one = below; reduced = reduced })) ∙ lowest_same (numerator x) x.den parts den (omega (arith, below)) some quotient

-- # So many parts as a fraction

fraction_of_parts_by : (p d : ℕ) (plain : Bool) → (p % d == 0) ≡ plain
    → (let x : Fraction = record { whole = p / d; num = p % d; den = if plain then 1 else d } in x)
    ≡ (if plain then of_whole (p / d) else record { whole = p / d; num = p % d; den = d })
fraction_of_parts_by p d true none = ap (λ n. let x : Fraction = record { whole = p / d; num = n; den = 1 } in x) (eqb-true (p % d) 0 none)
fraction_of_parts_by p d false some = refl

-- the quotient and the rest, as a fraction, are so many parts
pub fraction_of_parts : (p d : ℕ) → fraction_of (p / d) (p % d) d ≡ of_parts p d
fraction_of_parts p d = fraction_of_parts_by p d (p % d == 0) refl

-- a whole number, the quotient and the rest
pub with_parts : (whole p d : ℕ) → 1 ≤ d → fraction_of (whole + p / d) (p % d) d ≡ of_parts (whole * d + p) d
with_parts whole p d some =
    rw (← mul-add-div_right some whole p, ← mul-add-mod_self_right whole d p) (fraction_of_parts (whole * d + p) d)
