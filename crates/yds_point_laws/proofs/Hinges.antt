-- A power from a speed on, and below it in proportion: by layers. Where `slowest` is that speed H, S * H ^ n and the hinges from H on are S ^ (n + 1)
-- from H on, and S * H ^ n below.
use Rattle.yds_model.proofs.Common.{◌≡◌, ℕ, zero, suc, ◌+◌, ◌-◌, ◌*◌, ◌^◌, ◌≤◌, ◌∙◌, ap, arith, inl, inr, nat_lt, cases_lt, cond-true, cond-false, lt-ltb, le-ltb, pow-suc, mul-le-mul_left, mul-le-mul_right, le_of_mul-le-mul_left}
use Rattle.base.specs.Numbers.{sum_below}
use Rattle.model_lemmas.proofs.SumsBelow.{sum_below_same, sum_below_zero}
use Rattle.std.proofs.Math.Nat.{one-le-pow, pow-le-pow_left}
use Rattle.std.proofs.lemmas.Nat.{mul-pow}
use Rattle.yds_ratios.proofs.Layers.{weight, layers, speed_below, speeds_below}

-- a sum in two parts
split_sum : (H R : ℕ) (f : ℕ → ℕ) → sum_below (H + R) f ≡ sum_below H f + sum_below R (λ k. f (H + k))
split_sum H zero f =
    let here : H + 0 ≡ H = omega arith in
    ap (λ m. sum_below m f) here ∙ omega arith
split_sum H (suc R) f =
    let here : H + suc R ≡ suc (H + R) = omega arith in
    ap (λ m. sum_below m f) here ∙ omega (arith, split_sum H R f)

-- below S the layers and the speeds are S times the weights
low_sums : (S m : ℕ) (c : ℕ → ℕ) → m ≤ S → sum_below m (λ y. c y * (S - y)) + sum_below m (λ y. c y * y) ≡ S * sum_below m c
low_sums S zero c within = omega arith
low_sums S (suc m) c within =
    let rest : (S - m) + m ≡ S = omega (arith, within) in
    omega (arith, low_sums S m c (omega (arith, within)), ap (λ x. c m * x) rest)

module _ (n H R : ℕ) (some : 1 ≤ H) where
  -- the weights below H, together
  abbrev low : ℕ
  low = sum_below H (weight n)

  -- how much more they are than H ^ n
  abbrev pub bend : ℕ
  bend = low - H ^ n

  -- what is above H, and above each later speed, weighed
  abbrev pub hinges : ℕ → ℕ
  hinges S = bend * (S - H) + sum_below R (λ k. weight n (H + k) * (S - (H + k)))

  -- the cost of a speed
  abbrev pub priced : ℕ → ℕ
  priced S = S * H ^ n + hinges S

  -- the weighed speeds below H
  low_speeds : H ^ suc n + sum_below H (λ y. weight n y * y) ≡ H * low
  low_speeds = omega (arith, low_sums H H (weight n) (omega arith), layers n H H (omega arith))

  -- the weights are at least H ^ n
  bend_is : low ≡ H ^ n + bend
  bend_is =
      let most : H ^ n ≤ low = le_of_mul-le-mul_left {k = H} (omega (arith, low_speeds, pow-suc H n)) some in
      omega (arith, most)

  -- so the weighed speeds are H times how much more
  low_is : sum_below H (λ y. weight n y * y) ≡ H * bend
  low_is = omega (arith, low_speeds, pow-suc H n, ap (λ x. H * x) bend_is)

  -- from H on the cost is the power
  pub priced_above : (S : ℕ) → H ≤ S → S ≤ H + R → priced S ≡ S ^ suc n
  priced_above S from to =
      let up : (S - H) + H ≡ S = omega (arith, from) in
      omega (
        arith,
        layers n S (H + R) to,
        split_sum H R (λ y. weight n y * (S - y)),
        low_sums S H (weight n) from,
        low_is,
        ap (λ x. S * x) bend_is,
        ap (λ x. bend * x) up,
      )

  -- and below it is in proportion
  pub priced_below : (S : ℕ) → S ≤ H → priced S ≡ S * H ^ n
  priced_below S to =
      let none : S - H ≡ 0 = omega (arith, to) in
      omega (
        arith,
        ap (λ x. bend * x) none,
        sum_below_zero R (λ k. weight n (H + k) * (S - (H + k))) (λ k within. let nothing : S - (H + k) ≡ 0 = omega (arith, to) in omega (arith, ap (λ x. weight n (H + k) * x) nothing)),
      )

  -- the power is never more
  pub power_most : (S : ℕ) → S ≤ H + R → S ^ suc n ≤ priced S
  power_most S to = elim (cases_lt H S) [
    | inl above ↦ omega (arith, priced_above S (omega (arith, above)) to)
    | inr below ↦ omega (arith, priced_below S below, pow-suc S n, mul-le-mul_left S (pow-le-pow_left below n))
  ]

  -- n + 1 times the speed costs at most (n + 1) ^ (n + 1) times as much
  pub priced_times : (S : ℕ) → suc n * S ≤ H + R → priced (suc n * S) ≤ suc n ^ suc n * priced S
  priced_times S to =
      let lower : S ≤ H + R = omega (arith, to) in
      elim (cases_lt H (suc n * S)) [
        | inl above ↦ omega (
          arith,
          priced_above (suc n * S) (omega (arith, above)) to,
          mul-pow (suc n) S (suc n),
          mul-le-mul_left (suc n ^ suc n) (power_most S lower),
        )
        | inr below ↦
            let enough : suc n ≤ suc n ^ suc n = own_power in
            omega (
              arith,
              priced_below (suc n * S) below,
              priced_below S (omega (arith, below)),
              mul-le-mul_right (S * H ^ n) enough,
              ap (λ x. suc n ^ suc n * x) (priced_below S (omega (arith, below))),
            )
      ]
    where
      -- a number of at least 1 is at most its own power
      own_power : suc n ≤ suc n ^ suc n
      own_power = omega (arith, pow-suc (suc n) n, mul-le-mul_left (suc n) (one-le-pow n (suc n) (omega arith)))

  -- the weighed speeds below S, from H on, are at most n times its cost
  pub times_below : (S : ℕ) → S ≤ H + R → bend * speed_below S H + sum_below R (λ k. weight n (H + k) * speed_below S (H + k)) ≤ n * priced S
  times_below S to = elim (cases_lt H S) [
    | inr below ↦
        let none : speed_below S H ≡ 0 = cond-false {A = ℕ} (nat_lt H S) H 0 (le-ltb H S below) in
        omega (
          arith,
          ap (λ x. bend * x) none,
          sum_below_zero R (λ k. weight n (H + k) * speed_below S (H + k))
              (λ k within. let nothing : speed_below S (H + k) ≡ 0 = cond-false {A = ℕ} (nat_lt (H + k) S) (H + k) 0 (le-ltb (H + k) S (omega (arith, below))) in
              omega (arith, ap (λ x. weight n (H + k) * x) nothing)),
        )
    | inl above ↦
        let is : speed_below S H ≡ H = cond-true {A = ℕ} (nat_lt H S) H 0 (lt-ltb H S above) in
        omega (
          arith,
          ap (λ x. bend * x) is,
          speeds_below n S (H + R) to,
          split_sum H R (λ y. weight n y * speed_below S y),
          sum_below_same H (λ y. weight n y * speed_below S y) (λ y. weight n y * y)
              (λ y within. let here : speed_below S y ≡ y = cond-true {A = ℕ} (nat_lt y S) y 0 (lt-ltb y S (omega (arith, within, above))) in ap (λ x. weight n y * x) here),
          low_is,
          mul-le-mul_left n (power_most S to),
        )
  ]
