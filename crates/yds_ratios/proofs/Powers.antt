-- Powers of numbers, by a whole exponent of at least 1, n + 1: the means, one step of a power, and the power of a sum.
use Rattle.std.proofs.Common.{◌≡◌, ℕ, zero, suc, ◌+◌, ◌-◌, ◌*◌, ◌^◌, ◌≤◌, ◌∙◌, arith, ap, inl, inr, mul-le-mul_left, mul-le-mul_right}
use Rattle.std.proofs.Math.Nat.{one-mul, pow-suc, pow-zero, pow-le-pow_left}
use Rattle.std.proofs.lemmas.Bool.{cases_lt}

-- a number to the power of 1 is itself
pub first_power : (x : ℕ) → x ^ 1 ≡ x
first_power x = pow-suc x 0 ∙ rw (pow-zero x) (one-mul x)

-- and 0 to such a power is 0
pub no_power : (n : ℕ) → 0 ^ suc n ≡ 0
no_power n = omega (arith, pow-suc 0 n)

-- of two pairs, the second the greater by so much, the lesser numbers and the greater ones have the greater products together
rearranged_by : (a more c d : ℕ) → c ≤ d → a * d + (a + more) * c ≤ a * c + (a + more) * d
rearranged_by a more c d order = omega (arith, mul-le-mul_left more order)

-- the same of two pairs in order
rearranged : (a b c d : ℕ) → a ≤ b → c ≤ d → a * d + b * c ≤ a * c + b * d
rearranged a b c d first second =
    let is : a + (b - a) ≡ b = omega (arith, first) in
    rw is at (rearranged_by a (b - a) c d second)

-- so it is of two numbers and their powers
pub power_pairs : (x y n : ℕ) → x * y ^ n + y * x ^ n ≤ x * x ^ n + y * y ^ n
power_pairs x y n = elim (cases_lt x y) [
  | inl less ↦ rearranged x y (x ^ n) (y ^ n) (omega arith) (pow-le-pow_left (omega arith) n)
  | inr more ↦ let swapped = rearranged y x (y ^ n) (x ^ n) more (pow-le-pow_left more n) in omega arith
]

-- The means: n + 1 times a number and n times another is at most the power of the one and n times the power of the other.
pub power_means : (n x s : ℕ) → (n + 1) * (x * s ^ n) ≤ x ^ suc n + n * s ^ suc n
power_means zero x s = rw (first_power x, pow-zero s) (omega arith)
power_means (suc n) x s =
    omega (
      arith,
      mul-le-mul_right s (power_means n x s),
      power_pairs x s (suc n),
      pow-suc x (suc n),
      pow-suc s (suc n),
      ap (λ m. x * m) (pow-suc s n),
      ap (λ m. n * (x * m)) (pow-suc s n),
      ap (λ m. n * m) (pow-suc s (suc n)),
    )

-- One step: a power grows by at most n + 1 times the step and the greater number to the n.
pub power_step : (n z step : ℕ) → (z + step) ^ suc n ≤ z ^ suc n + (n + 1) * (step * (z + step) ^ n)
power_step zero z step = rw (first_power (z + step), first_power z, pow-zero (z + step)) (omega arith)
power_step (suc n) z step =
    omega (
      arith,
      pow-suc (z + step) (suc n),
      pow-suc z (suc n),
      ap (λ m. z * m) (pow-suc (z + step) n),
      mul-le-mul_left z (power_step n z step),
      ap (λ m. step * m) (pow-suc (z + step) n),
      ap (λ m. n * (step * m)) (pow-suc (z + step) n),
    )

-- A sum: its power is at most 2 to the n times the two powers together.
pub power_of_sum : (n x y : ℕ) → (x + y) ^ suc n ≤ 2 ^ n * (x ^ suc n + y ^ suc n)
power_of_sum zero x y = rw (first_power (x + y), first_power x, first_power y) (omega arith)
power_of_sum (suc n) x y =
    omega (
      arith,
      pow-suc (x + y) (suc n),
      mul-le-mul_right (x + y) (power_of_sum n x y),
      mul-le-mul_left (2 ^ n) (power_pairs x y (suc n)),
      ap (λ m. m * (x ^ suc (suc n) + y ^ suc (suc n))) (pow-suc 2 n),
      pow-suc x (suc n),
      pow-suc y (suc n),
      ap (λ m. 2 ^ n * m) (pow-suc x (suc n)),
      ap (λ m. 2 ^ n * m) (pow-suc y (suc n)),
    )
