-- Halves: with an odd number, a number has the same greatest common divisor as its double has.
use Rattle.yds_model.proofs.Common.{◌≡◌, ℕ, zero, suc, ◌+◌, ◌-◌, ◌*◌, ◌/◌, ◌%◌, ◌^◌, ◌<◌, ◌≤◌, ap, subst, sym, ◌∙◌, arith, inl, inr, min, max, ◌∣◌, IsGcd, bit_at, trailing_zeros, w64, cases_eq, cases_lt, IsGcd-swap, IsGcd-from_sub, dvd_trans, same_from_IsGcd, div-add-mod, div-mul_cancel, dvd-mul_left, mod-lt, div-div-eq-div-mul, pow-suc, div-one, pow-add, bit_at-trailing_zeros, common_divisor}
use Rattle.fraction_lemmas.proofs.Divisor.{divisor_is_greatest, divisor_times}

abbrev pub IsOdd : ℕ → Type 0
IsOdd n = n % 2 ≡ 1

-- what divides an odd number is odd
odd_divisor : (x e : ℕ) → IsOdd x → e ∣ x → IsOdd e
odd_divisor x e odd divides = elim (cases_eq (e % 2) 1) [
  | inl is ↦ is
  | inr isnt ↦
      let q = x / e in
      let below : e % 2 < 2 = mod-lt e (omega arith) in
      let half : e ≡ 2 * (e / 2) = omega (arith, div-add-mod e 2, below, isnt) in
      let whole : x ≡ 2 * (q * (e / 2)) = sym (div-mul_cancel e divides) ∙ ap (λ n. q * n) half ∙ (omega arith) in
      absurd (omega (arith, whole, odd))
]

-- and where an odd number divides a double it divides the number
half_divisor : (e d : ℕ) → IsOdd e → e ∣ 2 * d → e ∣ d
half_divisor e d odd divides =
    let c = 2 * d / e in
    let whole : c * e ≡ 2 * d = div-mul_cancel e divides in
    let split : e ≡ 2 * (e / 2) + 1 = omega (arith, div-add-mod e 2, odd) in
    let parts : c * e ≡ 2 * (c * (e / 2)) + c = ap (λ n. c * n) split ∙ (omega arith) in
    let q = d - c * (e / 2) in
    let twice : c ≡ 2 * q = omega (arith, whole, parts) in
    let doubled : c * e ≡ 2 * (q * e) = ap (λ n. n * e) twice ∙ (omega arith) in
    let is : q * e ≡ d = omega (arith, whole, doubled) in
    subst (λ (n : ℕ). e ∣ n) is (dvd-mul_left e q)

double : (x d g : ℕ) → IsOdd x → IsGcd x d g → IsGcd x (2 * d) g
double x d g odd is = (
  is.0,
  dvd_trans g is.1 (dvd-mul_left d 2),
  λ e first second. is.2 e first (half_divisor e d (odd_divisor x e odd first) second),
)

-- so it is with any power of two
doubles : (k x d g : ℕ) → IsOdd x → IsGcd x d g → IsGcd x (2 ^ k * d) g
doubles zero x d g odd is = subst (λ (n : ℕ). IsGcd x n g) (let same : d ≡ 2 ^ 0 * d = omega arith in same) is
doubles (suc k) x d g odd is =
    subst (λ (n : ℕ). IsGcd x n g) (let same : 2 * (2 ^ k * d) ≡ 2 ^ suc k * d = omega (arith, ap (λ n. n * d) (pow-suc 2 k)) in same)
    (double x (2 ^ k * d) g odd (doubles k x d g odd is))

-- A number whose lowest bits are 0 is a multiple of the power of two that they make.
low_zeros : (k n : ℕ) → ((i : ℕ) → i < k → bit_at n i ≡ 0) → 2 ^ k * (n / 2 ^ k) ≡ n
low_zeros zero n none = let one : n / 1 ≡ n = div-one n in omega (arith, one)
low_zeros (suc k) n none =
    let before : 2 ^ k * (n / 2 ^ k) ≡ n = low_zeros k n (λ i below. none i (omega arith)) in
    let half : n / 2 ^ k ≡ 2 * (n / 2 ^ k / 2) = omega (arith, div-add-mod (n / 2 ^ k) 2, none k (omega arith)) in
    let next : n / 2 ^ k / 2 ≡ n / 2 ^ suc k = div-div-eq-div-mul n (2 ^ k) 2 ∙ ap (λ m. n / m) (sym (pow-suc 2 k)) in
    let power : 2 ^ suc k * (n / 2 ^ suc k) ≡ 2 ^ k * (2 * (n / 2 ^ suc k)) = ap (λ m. m * (n / 2 ^ suc k)) (pow-suc 2 k) ∙ (omega arith) in
    power ∙ ap (λ m. 2 ^ k * (2 * m)) (sym next) ∙ ap (λ m. 2 ^ k * m) (sym half) ∙ before

-- the odd part of a number, and the power of two before it
pub is_odd_part : (n : ℕ) → 1 ≤ n → n < 2 ^ 64 → (2 ^ trailing_zeros w64 n * (n / 2 ^ trailing_zeros w64 n) ≡ n) × IsOdd (n / 2 ^ trailing_zeros w64 n)
is_odd_part n some fits =
    let place = bit_at-trailing_zeros w64 n (omega arith) fits in
    (low_zeros (trailing_zeros w64 n) n place.2, place.1)

turn : (k x y d g : ℕ) → IsOdd x → x ≤ y → 2 ^ k * d ≡ y - x → IsGcd x d g → IsGcd x y g
turn k x y d g odd order parts is =
    IsGcd-swap y x g (IsGcd-from_sub y x g order (IsGcd-swap x (y - x) g (subst (λ (n : ℕ). IsGcd x n g) parts (doubles k x d g odd is))))

-- One turn: the lesser of two odd numbers and the odd part of their difference have the divisor of both.
pub turned : (k x y d g : ℕ) → IsOdd x → IsOdd y → 2 ^ k * d ≡ max x y - min x y → IsGcd (min x y) d g → IsGcd x y g
turned k x y d g first second parts is = elim (cases_lt y x) [
  | inl less ↦
      IsGcd-swap y x g (turn k y x d g second (omega arith) (omega (arith, parts)) (subst (λ (n : ℕ). IsGcd n d g) (let least : min x y ≡ y = omega arith in least) is))
  | inr more ↦ turn k x y d g first (omega arith) (omega (arith, parts)) (subst (λ (n : ℕ). IsGcd n d g) (let least : min x y ≡ x = omega arith in least) is)
]

pub lesser_odd : (x y : ℕ) → IsOdd x → IsOdd y → IsOdd (min x y)
lesser_odd x y first second = grind (arith, cases_lt, min)

-- two numbers by their odd parts, where the first has no more twos
twos_below : (i j x y g : ℕ) → i ≤ j → IsOdd x → IsGcd x y g → IsGcd (2 ^ i * x) (2 ^ j * y) (2 ^ i * g)
twos_below i j x y g order odd is =
    let shared : common_divisor x (2 ^ (j - i) * y) ≡ g =
    same_from_IsGcd x (2 ^ (j - i) * y) _ g (divisor_is_greatest x (2 ^ (j - i) * y)) (doubles (j - i) x y g odd is) in
    let power : 2 ^ i * (2 ^ (j - i) * y) ≡ 2 ^ j * y = omega (arith, ap (λ n. n * y) (sym (pow-add 2 i (j - i)) ∙ ap (λ n. 2 ^ n) (let all : i + (j - i) ≡ j = omega arith in all))) in
    subst (λ (n : ℕ). IsGcd (2 ^ i * x) (2 ^ j * y) (2 ^ i * n)) shared
    (subst (λ (n : ℕ). IsGcd (2 ^ i * x) n (2 ^ i * common_divisor x (2 ^ (j - i) * y))) power (divisor_times (2 ^ i) x (2 ^ (j - i) * y)))

-- and in whatever order
with_twos : (i j x y g : ℕ) → IsOdd x → IsOdd y → IsGcd x y g → IsGcd (2 ^ i * x) (2 ^ j * y) (2 ^ min i j * g)
with_twos i j x y g first second is = elim (cases_lt j i) [
  | inl less ↦
      subst (λ (k : ℕ). IsGcd (2 ^ i * x) (2 ^ j * y) (2 ^ k * g)) (let least : j ≡ min i j = omega arith in least)
      (IsGcd-swap (2 ^ j * y) (2 ^ i * x) (2 ^ j * g) (twos_below j i y x g (omega arith) second (IsGcd-swap x y g is)))
  | inr more ↦
      subst (λ (k : ℕ). IsGcd (2 ^ i * x) (2 ^ j * y) (2 ^ k * g)) (let least : i ≡ min i j = omega arith in least)
      (twos_below i j x y g (omega arith) first is)
]

pub divisor_of_parts : (a b i j k x y g : ℕ) → 2 ^ i * x ≡ a → 2 ^ j * y ≡ b → k ≡ min i j → IsOdd x → IsOdd y → IsGcd x y g → IsGcd a b (2 ^ k * g)
divisor_of_parts a b i j k x y g first second least odd_x odd_y is = rw (← first, ← second, least) (with_twos i j x y g odd_x odd_y is)
