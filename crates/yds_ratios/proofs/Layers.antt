-- A power as a sum of layers: a power of a whole speed S is the sum, over the whole speeds y below S, of a weight of y times S - y.
-- So what runs spend is the sum of the weights times what they do above each whole speed.
use Rattle.yds_model.proofs.Common.{◌≡◌, ℕ, zero, suc, ◌+◌, ◌-◌, ◌*◌, ◌^◌, ◌≤◌, min, cond, nat_lt, refl, ap, arith, inl, inr, cases_lt, cond-true, cond-false, lt-ltb, le-ltb, pow-suc, mul-le-mul_left}
use Rattle.base.specs.Numbers.{sum_below}
use Rattle.std.proofs.Math.Nat.{pow-zero}
use Rattle.yds_ratios.proofs.Powers.{first_power, no_power}

-- # Steps of a power

-- (z + 1) ^ (n + 1) - z ^ (n + 1)
abbrev pub rise : ℕ → ℕ → ℕ
rise zero z = 1
rise (suc n) z = suc z ^ suc n + z * rise n z

-- the step from a power to the next number's
pub power_step : (n z : ℕ) → suc z ^ suc n ≡ z ^ suc n + rise n z
power_step zero z = omega (arith, first_power z, first_power (suc z))
power_step (suc n) z = omega (arith, pow-suc (suc z) (suc n), pow-suc z (suc n), ap (λ x. z * x) (power_step n z))

-- a power of 1
pub one_to : (n : ℕ) → 1 ^ n ≡ 1
one_to zero = pow-zero 1
one_to (suc n) = omega (arith, pow-suc 1 n, one_to n)

-- the first step is 1, and the steps grow
rise_first : (n : ℕ) → rise n 0 ≡ 1
rise_first zero = refl
rise_first (suc n) = omega (arith, one_to (suc n))

-- powers grow
power_grows : (n z : ℕ) → suc z ^ n ≤ suc (suc z) ^ n
power_grows zero z = omega (arith, pow-zero (suc z), pow-zero (suc (suc z)))
power_grows (suc n) z = omega (arith, power_step n (suc z))

-- and so do the steps
rise_grows : (n z : ℕ) → rise n z ≤ rise n (suc z)
rise_grows zero z = omega arith
rise_grows (suc n) z = omega (arith, power_grows (suc n) z, mul-le-mul_left z (rise_grows n z))

-- a step is at most the exponent times the greater end's power of one less
rise_most : (n z : ℕ) → rise n z ≤ suc n * suc z ^ n
rise_most zero z = omega (arith, pow-zero (suc z))
rise_most (suc n) z =
    omega (arith, mul-le-mul_left z (rise_most n z), ap (λ x. suc (suc n) * x) (pow-suc (suc z) n), pow-suc (suc z) n)

-- # Weights of whole speeds

-- how much more a layer counts than the one below it
abbrev pub weight : ℕ → ℕ → ℕ
weight n zero = 1
weight n (suc y) = rise n (suc y) - rise n y

-- together they are a step
weights : (n y : ℕ) → sum_below (suc y) (weight n) ≡ rise n y
weights n zero = omega (arith, rise_first n)
weights n (suc y) = omega (arith, weights n y, rise_grows n y)

-- one speed more adds a layer
layer_more : (n S N : ℕ) → sum_below N (λ y. weight n y * (suc S - y)) ≡ sum_below N (λ y. weight n y * (S - y)) + sum_below (min N (suc S)) (weight n)
layer_more n S zero = let none : min 0 (suc S) ≡ 0 = omega arith in omega (arith, ap (λ m. sum_below m (weight n)) none)
layer_more n S (suc N) = elim (cases_lt N (suc S)) [
  | inl in_it ↦
      let one : suc S - N ≡ (S - N) + 1 = omega (arith, in_it) in
      let here : min (suc N) (suc S) ≡ suc N = omega (arith, in_it) in
      let before : min N (suc S) ≡ N = omega (arith, in_it) in
      omega (
        arith,
        layer_more n S N,
        ap (λ x. weight n N * x) one,
        ap (λ m. sum_below m (weight n)) here,
        ap (λ m. sum_below m (weight n)) before,
      )
  | inr past ↦
      let none : suc S - N ≡ 0 = omega (arith, past) in
      let nothing : S - N ≡ 0 = omega (arith, past) in
      let same : min (suc N) (suc S) ≡ min N (suc S) = omega (arith, past) in
      omega (
        arith,
        layer_more n S N,
        ap (λ x. weight n N * x) none,
        ap (λ x. weight n N * x) nothing,
        ap (λ m. sum_below m (weight n)) same,
      )
]

-- the layers of a speed are its power
pub layers : (n S N : ℕ) → S ≤ N → sum_below N (λ y. weight n y * (S - y)) ≡ S ^ suc n
layers n zero zero within = omega (arith, no_power n)
layers n zero (suc N) within =
    let none : 0 - N ≡ 0 = omega arith in
    omega (arith, layers n zero N (omega arith), ap (λ x. weight n N * x) none)
layers n (suc S) N within =
    let least : min N (suc S) ≡ suc S = omega (arith, within) in
    omega (arith, layer_more n S N, layers n S N (omega (arith, within)), ap (λ m. sum_below m (weight n)) least, weights n S, power_step n S)

-- the speed y, where it is below S
abbrev pub speed_below : ℕ → ℕ → ℕ
speed_below S y = cond (nat_lt y S) y 0

-- weighed speeds below S and layers of S are S times the weights
both_sums : (n S N : ℕ) → sum_below N (λ y. weight n y * speed_below S y) + sum_below N (λ y. weight n y * (S - y)) ≡ S * sum_below (min N S) (weight n)
both_sums n S zero = let none : min 0 S ≡ 0 = omega arith in omega (arith, ap (λ x. S * sum_below x (weight n)) none)
both_sums n S (suc N) = elim (cases_lt N S) [
  | inl in_it ↦
      let is : speed_below S N ≡ N = cond-true {A = ℕ} (nat_lt N S) N 0 (lt-ltb N S in_it) in
      let rest : S ≡ (S - N) + N = omega (arith, in_it) in
      let here : min (suc N) S ≡ suc N = omega (arith, in_it) in
      let before : min N S ≡ N = omega (arith, in_it) in
      omega (
        arith,
        both_sums n S N,
        ap (λ x. weight n N * x) is,
        ap (λ x. weight n N * x) rest,
        ap (λ x. S * sum_below x (weight n)) here,
        ap (λ x. S * sum_below x (weight n)) before,
      )
  | inr past ↦
      let is : speed_below S N ≡ 0 = cond-false {A = ℕ} (nat_lt N S) N 0 (le-ltb N S past) in
      let none : S - N ≡ 0 = omega (arith, past) in
      let same : min (suc N) S ≡ min N S = omega (arith, past) in
      omega (
        arith,
        both_sums n S N,
        ap (λ x. weight n N * x) is,
        ap (λ x. weight n N * x) none,
        ap (λ x. S * sum_below x (weight n)) same,
      )
]

-- So the weighed speeds below S are at most the exponent less one times the power.
pub speeds_below : (n S N : ℕ) → S ≤ N → sum_below N (λ y. weight n y * speed_below S y) ≤ n * S ^ suc n
speeds_below n zero N within = omega (arith, both_sums n 0 N)
speeds_below n (suc S) N within =
    let least : min N (suc S) ≡ suc S = omega (arith, within) in
    omega (
      arith,
      both_sums n (suc S) N,
      layers n (suc S) N within,
      ap (λ x. suc S * sum_below x (weight n)) least,
      ap (λ x. suc S * x) (weights n S),
      mul-le-mul_left (suc S) (rise_most n S),
      ap (λ x. suc n * x) (pow-suc (suc S) n),
    )
