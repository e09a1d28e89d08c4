-- Parts as a fraction, and a quotient in lowest terms, have the quotient's value.
use Rattle.std.proofs.Common.{◌≡◌, ℕ, ◌+◌, ◌*◌, ◌/◌, ◌%◌, ◌<◌, ◌≤◌, ◌==◌, Bool, true, false, arith, add_comm, ap, ap₂, subst, sym, ◌∙◌, refl, eqb-true}
use Rattle.std.specs.Prelude.{if◌then◌else◌}
use Rattle.std.specs.Int.{◌∣◌, IsGcd}
use Rattle.std.proofs.lemmas.Nat.{mod-mul-add}
use Rattle.std.proofs.lemmas.Nat.Gcd.{dvd-zero, dvd_refl, le_of_dvd, same_from_IsGcd}
use Rattle.std.proofs.Math.Nat.{div-mul_cancel, div-one, dvd-mul_left_of_dvd, dvd-add_iff_left, one-dvd, eq_of_mul-eq-mul_left, eq_of_mul-eq-mul_right}
use Rattle.yds_model.specs.Scale.{Fraction, numerator, of_whole, of_parts}
use Rattle.yds_model.specs.Divisor.{common_divisor, in_lowest_terms, IsLowest}
use Rattle.fraction_lemmas.proofs.Divisor.{divisor_is_greatest, divisor_positive, divisor_times, lowest_terms_are_one}
use Rattle.fraction_lemmas.proofs.Fractions.{factors}

-- the fraction has the value num/den
pub record HasValue (num den : ℕ) (x : Fraction) : Type 0 where
  pub has_parts : 1 ≤ x.den
  pub same : numerator x * den ≡ num * x.den

-- parts that make a whole number, or leave some over
parts_told : (b : Bool) (parts den : ℕ) → 1 ≤ den → (parts % den == 0) ≡ b →
    HasValue parts den (if b then of_whole (parts / den) else record { whole = parts / den; num = parts % den; den = den })
parts_told true parts den some is =
    let none : parts % den ≡ 0 = eqb-true (parts % den) 0 is in
    record { has_parts = omega arith; same = omega (arith, none) }
parts_told false parts den some is =
    let whole : parts / den * den + parts % den ≡ parts = omega arith in
    record { has_parts = some; same = ap (λ n. n * den) whole }

-- so many parts have the value of the quotient
pub parts_value : (parts den : ℕ) → 1 ≤ den → HasValue parts den (of_parts parts den)
parts_value parts den some = parts_told (parts % den == 0) parts den some refl

-- and so has the quotient in lowest terms
pub lowest_value : (num den : ℕ) → 1 ≤ den → HasValue num den (in_lowest_terms num den)
lowest_value num den some =
    let g = common_divisor num den in
    let x = in_lowest_terms num den in
    let greatest = divisor_is_greatest num den in
    let of_num = div-mul_cancel g greatest.0 in
    let of_den = div-mul_cancel g greatest.1 in
    let value = parts_value (num / g) (den / g) (factors (den / g) g den of_den some).0 in
    record {
      has_parts = value.has_parts;
      same = omega (arith, ap (λ n. n * g) value.same, ap (λ n. numerator x * n) of_den, ap (λ n. n * x.den) of_num);
    }

-- # Fractions in lowest terms

-- parts of a fraction in lowest terms are it
parts_lowest : (b : Bool) (whole num den : ℕ) → num < den → common_divisor num den ≡ 1 → (num == 0) ≡ b →
    (if b then of_whole whole else record { whole = whole; num = num; den = den }) ≡ record { whole = whole; num = num; den = den }
parts_lowest true whole num den below reduced is =
    let none : num ≡ 0 = eqb-true num 0 is in
    let divides : den ∣ num = subst (λ n. den ∣ n) (sym none) (dvd-zero den) in
    let one_divides : den ∣ 1 = subst (λ n. den ∣ n) reduced ((divisor_is_greatest num den).2 den divides (dvd_refl den)) in
    let one : den ≡ 1 = omega (arith, below, le_of_dvd (omega arith) one_divides) in
    cc
parts_lowest false whole num den below reduced is = refl

-- a fraction in lowest terms is the quotient of its numerator
pub lowest_is : (x : Fraction) → IsLowest x → in_lowest_terms (numerator x) x.den ≡ x
lowest_is x lowest =
    let g = common_divisor (numerator x) x.den in
    let some : 1 ≤ x.den = omega (arith, lowest.below_one) in
    let greatest = divisor_is_greatest (numerator x) x.den in
    let sum : g ∣ x.num + x.whole * x.den = subst (λ n. g ∣ n) (add_comm (x.whole * x.den) x.num) greatest.0 in
    let of_num : g ∣ x.num = (dvd-add_iff_left g {m = x.num} {n = x.whole * x.den} (dvd-mul_left_of_dvd g greatest.1 x.whole)).1 sum in
    let of_one : g ∣ 1 = subst (λ n. g ∣ n) lowest.reduced ((divisor_is_greatest x.num x.den).2 g of_num greatest.1) in
    let one : g ≡ 1 = omega (arith, le_of_dvd (omega arith) of_one, divisor_positive (numerator x) x.den some) in
    let over : numerator x % x.den ≡ x.num = mod-mul-add x.whole x.den x.num lowest.below_one in
    let whole : numerator x / x.den ≡ x.whole =
    eq_of_mul-eq-mul_right x.den some (numerator x / x.den) x.whole (let all : numerator x / x.den * x.den + numerator x % x.den ≡ numerator x = omega arith in omega (arith, all, over)) in
    ap (λ n. of_parts (numerator x / n) (x.den / n)) one
    ∙ ap₂ of_parts (div-one (numerator x)) (div-one x.den)
    ∙ ap₂ (λ n m. if n == 0 then of_whole m else record { whole = m; num = n; den = x.den }) over whole
    ∙ parts_lowest (x.num == 0) x.whole x.num x.den lowest.below_one lowest.reduced refl

-- # In lowest terms

-- a divisor of what is left over and of the denominator is one of the parts
left_over : (parts den : ℕ) → common_divisor parts den ≡ 1 → IsGcd (parts % den) den 1
left_over parts den reduced = (
  one-dvd (parts % den),
  one-dvd den,
  λ t of_rest of_den.
      let all : parts / den * den + parts % den ≡ parts = omega arith in
      let both : t ∣ parts = subst (λ n. t ∣ n) all ((dvd-add_iff_left t {m = parts / den * den} {n = parts % den} of_rest).0 (dvd-mul_left_of_dvd t of_den (parts / den))) in
      subst (λ n. t ∣ n) reduced ((divisor_is_greatest parts den).2 t both of_den),
)

parts_are_lowest : (b : Bool) (parts den : ℕ) → 1 ≤ den → common_divisor parts den ≡ 1 → (parts % den == 0) ≡ b →
    IsLowest (if b then of_whole (parts / den) else record { whole = parts / den; num = parts % den; den = den })
parts_are_lowest true parts den some reduced is = record { below_one = omega arith; reduced = refl }
parts_are_lowest false parts den some reduced is = record {
  below_one = omega arith;
  reduced = same_from_IsGcd (parts % den) den (common_divisor (parts % den) den) 1 (divisor_is_greatest (parts % den) den) (left_over parts den reduced);
}

-- a quotient in lowest terms is so
pub lowest_is_lowest : (num den : ℕ) → 1 ≤ den → IsLowest (in_lowest_terms num den)
lowest_is_lowest num den some =
    let g = common_divisor num den in
    let greatest = divisor_is_greatest num den in
    let of_num : num / g * g ≡ num = div-mul_cancel g greatest.0 in
    let of_den : den / g * g ≡ den = div-mul_cancel g greatest.1 in
    let some_g = divisor_positive num den some in
    let times : IsGcd num den (g * common_divisor (num / g) (den / g)) =
    let first : g * (num / g) ≡ num = omega (arith, of_num) in
    let second : g * (den / g) ≡ den = omega (arith, of_den) in
    subst (λ a. IsGcd a den (g * common_divisor (num / g) (den / g))) first
    (subst (λ b. IsGcd (g * (num / g)) b (g * common_divisor (num / g) (den / g))) second (divisor_times g (num / g) (den / g))) in
    let same : g ≡ g * common_divisor (num / g) (den / g) = same_from_IsGcd num den g (g * common_divisor (num / g) (den / g)) greatest times in
    let reduced : common_divisor (num / g) (den / g) ≡ 1 = eq_of_mul-eq-mul_left g some_g (common_divisor (num / g) (den / g)) 1 (omega (arith, same)) in
    parts_are_lowest ((num / g) % (den / g) == 0) (num / g) (den / g) (factors (den / g) g den of_den some).0 reduced refl

-- # Equal quotients

-- quotients that are the same have the same lowest terms
pub lowest_same : (a b c d : ℕ) → 1 ≤ b → 1 ≤ d → a * d ≡ c * b → in_lowest_terms a b ≡ in_lowest_terms c d
lowest_same a b c d some_b some_d same = grind (arith, ap₂, lowest_terms_are_one)
