-- A quotient that is rounded up, by a product with a fraction that was rounded down.
use Rattle.yds_model.proofs.Common.{◌≡◌, ℕ, ◌+◌, ◌-◌, ◌*◌, ◌/◌, ◌%◌, ◌<◌, ◌≤◌, ◌∙◌, sym, ap, arith, inl, inr, ◌==◌, not, cases_lt, cases_eq, eq-eqb, ne_eqb, mul-le-mul_right, mul-le-mul_left, le_of_mul-le-mul_right, le-div_iff_mul-le, div-lt_iff_lt-mul, div-mul-le_self, lt-div-mul-add, add-mul-div_right, mul-add-mod_self_right, dvd-mul_left, mod-eq-zero_of_dvd, div_up, Piece}
use Rattle.yds_avr.specs.declared.rate.Rate.{Rate}
use Rattle.yds_events.specs.Stretch.{length_of}
use Rattle.yds_avr.specs.Rate.{window_length, rate_units, rate_term, rate_rounds, IsRate, IsLive}
use Rattle.yds_edf.proofs.Quotients.{up_enough, up_most}

module _ (rest length window fraction : ℕ) (some : 1 ≤ window) (in_range : window ≤ 1000000000) (short : length ≤ window)
    (is : fraction ≡ rest * 18446744073709551616 / window) where
  abbrev up : ℕ
  up = div_up (rest * length) window

  low : fraction * window ≤ rest * 18446744073709551616
  low = omega (arith, div-mul-le_self (rest * 18446744073709551616) window, ap (λ n. n * window) is)

  high : rest * 18446744073709551616 < fraction * window + window
  high = omega (arith, lt-div-mul-add {a = rest * 18446744073709551616} {b = window} (omega (arith, some)), ap (λ n. n * window) is)

  up_less : up * window ≤ rest * length + (window - 1)
  up_less = div-mul-le_self (rest * length + (window - 1)) window

  small : window * length ≤ 1000000000000000000
  small = omega (arith, mul-le-mul_left window short, mul-le-mul_left window in_range, in_range)

  -- not too few
  enough : up * 18446744073709551616 ≤ fraction * length + 18446744073709551615
  enough = elim (cases_lt (fraction * length + 18446744073709551615) (up * 18446744073709551616)) [
    | inr most ↦ most
    | inl less ↦ absurd (omega (
      arith,
      mul-le-mul_right window less,
      mul-le-mul_right length high,
      up_less,
      small,
      some,
    ))
  ]

  -- and not too many
  most : fraction * length ≤ up * 18446744073709551616
  most = le_of_mul-le-mul_right {k = window} (omega (arith, mul-le-mul_right length low, up_enough (rest * length) window some)) (omega (arith, some))

  pub product_up : (fraction * length + 18446744073709551615) / 18446744073709551616 ≡ up
  product_up = grind (arith, div-lt_iff_lt-mul, enough, le-div_iff_mul-le, most)

-- the whole units apart
pub whole_apart : (whole rest length window : ℕ) → 1 ≤ window → div_up ((whole * window + rest) * length) window ≡ whole * length + div_up (rest * length) window
whole_apart whole rest length window some =
    let apart : (whole * window + rest) * length + (window - 1) ≡ (rest * length + (window - 1)) + (whole * length) * window = omega arith in
    ap (λ n. n / window) apart
    ∙ add-mul-div_right (rest * length + (window - 1)) (whole * length) {z = window} (omega (arith, some))
    ∙ omega arith

-- whole where the number that is rounded up is that times the divisor
up_whole : (x y : ℕ) → 1 ≤ y → x % y ≡ 0 → div_up x y * y ≡ x
up_whole x y some none = grind arith

rest_none : (x y : ℕ) → 1 ≤ y → (div_up x y * y == x) ≡ (x % y == 0)
rest_none x y some = elim (cases_eq (x % y) 0) [
  | inl none ↦ eq-eqb (div_up x y * y) x (up_whole x y some none) ∙ sym (eq-eqb (x % y) 0 none)
  | inr more ↦ ne_eqb (div_up x y * y) x
      (λ (same : div_up x y * y ≡ x). more (ap (λ n. n % y) (sym same) ∙ mod-eq-zero_of_dvd y (dvd-mul_left y (div_up x y))))
      ∙ sym (ne_eqb (x % y) 0 more)
]

-- # What the code computes

pub whole_few : (rate : Rate) → IsRate rate → rate.whole ≤ 1000000000000
whole_few rate is = omega (arith, mul-le-mul_left rate.whole (let some : 1 ≤ window_length rate = omega (arith, is.has_window) in some), is.few)

module _ (rate : Rate) (is : IsRate rate) (length : ℕ) (within : length ≤ window_length rate) where
  some_window : 1 ≤ window_length rate
  some_window = omega (arith, is.has_window)

  -- a rest of the job's units
  pub rest_told : (fraction other : ℕ) → fraction ≡ rate.fraction → other ≡ length →
      (fraction * other + 18446744073709551615) / 18446744073709551616 ≡ div_up (rate.rest * length) (window_length rate)
  rest_told fraction other fraction_is other_is = grind (arith, product_up, some_window)

  pub rest_few : div_up (rate.rest * length) (window_length rate) ≤ rate.rest
  rest_few = up_most (rate.rest * length) (window_length rate) rate.rest some_window (mul-le-mul_left rate.rest within)

  pub rest_rounds : (rest window : ℕ) → rest ≡ div_up (rate.rest * length) (window_length rate) → window ≡ window_length rate →
      not (rest * window == rate.rest * length) ≡ not (rate.rest * length % window_length rate == 0)
  rest_rounds rest window rest_is window_is = grind (arith, rest_none, some_window)

-- # A live job's part

module _ (stretch : Piece) (rate : Rate) (live : IsLive stretch rate) where
  pub part_long : length_of stretch ≤ window_length rate
  part_long = omega (arith, live.released, live.due)

  pub part_apart : rate_term stretch rate ≡ rate.whole * length_of stretch + div_up (rate.rest * length_of stretch) (window_length rate)
  part_apart = whole_apart rate.whole rate.rest (length_of stretch) (window_length rate) (omega (arith, live.is_rate.has_window))

  pub part_few : rate_term stretch rate ≤ 1000000000000
  part_few = omega (
    arith,
    up_most (rate_units rate * length_of stretch) (window_length rate) (rate_units rate) (omega (arith, live.is_rate.has_window)) (mul-le-mul_left (rate_units rate) part_long),
    live.is_rate.few,
  )

  pub part_rounds : rate_rounds stretch rate ≡ not (rate.rest * length_of stretch % window_length rate == 0)
  part_rounds =
      let apart : (rate.whole * window_length rate + rate.rest) * length_of stretch ≡ (rate.whole * length_of stretch) * window_length rate + rate.rest * length_of stretch = omega arith in
      ap (λ n. not (n == 0)) (ap (λ n. n % window_length rate) apart ∙ mul-add-mod_self_right (rate.whole * length_of stretch) (window_length rate) (rate.rest * length_of stretch))
