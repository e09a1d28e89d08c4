-- The greatest common divisor by Euclid's turns, the least common multiple by it, and quotients in lowest terms.
use Rattle.std.proofs.Common.{◌≡◌, ℕ, zero, suc, ◌+◌, ◌*◌, ◌/◌, ◌%◌, ◌<◌, ◌≤◌, ap, subst, ◌∙◌, refl, arith}
use Rattle.std.specs.Int.{◌∣◌, IsGcd}
use Rattle.std.proofs.lemmas.Nat.Gcd.{IsGcd-from_zero, IsGcd-from_mod, same_from_IsGcd}
use Rattle.std.proofs.Math.Nat.{mul-zero, mod-lt, mod-eq_of_lt, div-add-mod, mul-add-mod_self_left, mul-lt-mul_of_pos_left, mul-pos, div-mul_cancel, dvd-mul_left, dvd-mul_right, dvd_of_mul-dvd-mul_left, mul-dvd-mul_right, eq_of_mul-eq-mul_right}
use Rattle.yds_model.specs.Divisor.{divisor_within, common_divisor, common_multiple}
use Rattle.yds_model.specs.DivisorLaws.{DivisorIsGreatest, MultipleIsLeast, LowestTermsAreOne}
use Rattle.fraction_lemmas.proofs.Fractions.{den_positive}

-- the remainder of t times two numbers
mod_times : (t a b : ℕ) → 1 ≤ b → (t * a) % (t * b) ≡ t * (a % b)
mod_times zero a b some = omega arith
mod_times (suc t) a b some =
    let short : suc t * (a % b) < suc t * b = mul-lt-mul_of_pos_left (mod-lt a some) (omega arith) in
    let whole : suc t * a ≡ suc t * b * (a / b) + suc t * (a % b) = omega (arith, ap (λ n. suc t * n) (div-add-mod a b)) in
    ap (λ n. n % (suc t * b)) whole ∙ mul-add-mod_self_left (suc t * b) (a / b) (suc t * (a % b)) ∙ mod-eq_of_lt short

-- enough turns end at the greatest common divisor
within_is_greatest : (turns a b : ℕ) → b ≤ turns → IsGcd a b (divisor_within turns a b)
within_is_greatest zero a b enough = IsGcd-from_zero a b (omega arith)
within_is_greatest (suc turns) a zero enough = IsGcd-from_zero a zero refl
within_is_greatest (suc turns) a (suc b) enough =
    let short : a % suc b < suc b = mod-lt a (omega arith) in
    IsGcd-from_mod a (suc b) _ (within_is_greatest turns (suc b) (a % suc b) (omega arith))

-- and t times it is that of t times the numbers
within_times : (t turns a b : ℕ) → b ≤ turns → IsGcd (t * a) (t * b) (t * divisor_within turns a b)
within_times t zero a b enough =
    let none : b ≡ 0 = omega arith in
    IsGcd-from_zero (t * a) (t * b) (omega (arith, ap (λ n. t * n) none))
within_times t (suc turns) a zero enough = IsGcd-from_zero (t * a) (t * zero) (mul-zero t)
within_times t (suc turns) a (suc b) enough =
    let short : a % suc b < suc b = mod-lt a (omega arith) in
    IsGcd-from_mod (t * a) (t * suc b) (t * divisor_within turns (suc b) (a % suc b))
    (rw (mod_times t a (suc b) (omega arith)) (within_times t turns (suc b) (a % suc b) (omega arith)))

-- so the turns of the definition do
pub divisor_is_greatest : DivisorIsGreatest
divisor_is_greatest a b = within_is_greatest b a b (omega arith)

-- also of t times the numbers
pub divisor_times : (t a b : ℕ) → IsGcd (t * a) (t * b) (t * common_divisor a b)
divisor_times t a b = within_times t b a b (omega arith)

-- the divisor of a number of at least 1 and another is at least 1
pub divisor_positive : (a b : ℕ) → 1 ≤ b → 1 ≤ common_divisor a b
divisor_positive a b some = den_positive b (common_divisor a b) some (divisor_is_greatest a b).1

-- a * b divides u * g * b, for the multiple u * b of both
multiple_divides : (a b k : ℕ) → 1 ≤ common_divisor a b → a ∣ k → b ∣ k → common_multiple a b ∣ k
multiple_divides a b k some of_first of_second =
    let g = common_divisor a b in
    let u = k / b in
    let ub : u * b ≡ k = div-mul_cancel b of_second in
    let shared : a ∣ u * g = (divisor_times u a b).2 a (dvd-mul_left a u) (rw ub of_first) in
    let left : a * b ≡ g * (a / g * b) = omega (arith, ap (λ n. n * b) (div-mul_cancel g (divisor_is_greatest a b).0)) in
    let right : u * g * b ≡ g * k = omega (arith, ap (λ n. g * n) ub) in
    dvd_of_mul-dvd-mul_left (a / g * b) some
    (subst (λ (n : ℕ). n ∣ g * k) left (subst (λ (n : ℕ). a * b ∣ n) right (mul-dvd-mul_right a shared b)))

-- it is a multiple of the first number
multiple_of_first : (a b : ℕ) → a ∣ common_multiple a b
multiple_of_first a b =
    let g = common_divisor a b in
    let e : a * (b / g) ≡ a / g * b = omega (
      arith,
      ap (λ n. n * (b / g)) (div-mul_cancel g (divisor_is_greatest a b).0),
      ap (λ n. a / g * n) (div-mul_cancel g (divisor_is_greatest a b).1),
    ) in
    subst (λ (n : ℕ). a ∣ n) e (dvd-mul_right a (b / g))

-- and each common multiple is one of it, also where both numbers are 0
multiple_least : (a b k : ℕ) → a ∣ k → b ∣ k → common_multiple a b ∣ k
multiple_least zero zero k of_first of_second = of_first
multiple_least (suc a) zero k of_first of_second = multiple_divides (suc a) zero k (omega arith) of_first of_second
multiple_least a (suc b) k of_first of_second =
    multiple_divides a (suc b) k (divisor_positive a (suc b) (omega arith)) of_first of_second

-- the three facts together
pub multiple_is_least : MultipleIsLeast
multiple_is_least a b = (multiple_of_first a b, dvd-mul_left b (a / common_divisor a b), multiple_least a b)

-- two numbers over divisors that stand as the numbers do are equal
same_part : (n m g h : ℕ) → 1 ≤ g → 1 ≤ h → g ∣ n → h ∣ m → m * g ≡ n * h → n / g ≡ m / h
same_part n m g h some_g some_h of_n of_m e =
    eq_of_mul-eq-mul_right (g * h) (mul-pos some_g some_h) (n / g) (m / h)
    (omega (arith, e, ap (λ k. k * h) (div-mul_cancel g of_n), ap (λ k. k * g) (div-mul_cancel h of_m)))

-- the divisors of two pairs, each times a number, where the multiples of the pairs are the same
same_divisor : (t a b s c d : ℕ) → t * a ≡ s * c → t * b ≡ s * d → t * common_divisor a b ≡ s * common_divisor c d
same_divisor t a b s c d first second =
    same_from_IsGcd (t * a) (t * b) (t * common_divisor a b) (s * common_divisor c d) (divisor_times t a b)
    (rw (first, second) (divisor_times s c d))

-- the divisors stand as the denominators do, and as the numerators
pub lowest_terms_are_one : LowestTermsAreOne
lowest_terms_are_one a b c d some_b some_d e =
    let g = common_divisor a b in
    let h = common_divisor c d in
    let some_g = divisor_positive a b some_b in
    let some_h = divisor_positive c d some_d in
    let of_first = divisor_is_greatest a b in
    let of_second = divisor_is_greatest c d in (
      same_part a c g h some_g some_h of_first.0 of_second.0 (same_divisor c a b a c d (omega arith) (omega arith)),
      same_part b d g h some_g some_h of_first.1 of_second.1 (same_divisor d a b b c d (omega arith) (omega arith)),
    )
