-- A stretch that is cut between two points: the numbers of its switch.
use Rattle.yds_model.proofs.Common.{◌≡◌, ℕ, ◌+◌, ◌-◌, ◌*◌, ◌<◌, ◌≤◌, max, ap, arith, inl, inr, cases_lt, mul-le-mul_right, mul-pos, le_of_mul-le-mul_right, common_multiple, Piece}
use Rattle.yds_events.specs.Stretch.{length_of}
use Rattle.yds_round.specs.declared.split.Split.{Split}
use Rattle.yds_round.specs.Split.{IsSplit}
use Rattle.yds_round.specs.Written.{all_units, surplus_of, turn}

-- In plain numbers: two speeds low and high = low + gap, the surplus S of a stretch, a speed `speed` of one of the parts, whose common
-- multiple with the gap is m, and its step and switch.
module _ (gap speed m step switch : ℕ) (some_gap : 1 ≤ gap) (some_speed : 1 ≤ speed) (is_step : step * speed ≡ m) (is_switch : switch * gap ≡ m) where
  -- work by the step and work by the switch stand as the work and the speed do
  pub by_step : (units surplus : ℕ) → units * gap ≤ speed * surplus → units * step ≤ surplus * switch
  by_step units surplus below = le_of_mul-le-mul_right {k = speed * gap} (omega (
    arith,
    mul-le-mul_right m below,
    ap (λ n. units * gap * n) is_step,
    ap (λ n. speed * surplus * n) is_switch,
  )) (mul-pos some_speed some_gap)

  -- also the other way
  pub by_switch : (units surplus : ℕ) → speed * surplus ≤ units * gap → surplus * switch ≤ units * step
  by_switch units surplus above = le_of_mul-le-mul_right {k = speed * gap} (omega (
    arith,
    mul-le-mul_right m above,
    ap (λ n. units * gap * n) is_step,
    ap (λ n. speed * surplus * n) is_switch,
  )) (mul-pos some_speed some_gap)

  -- the switch lies in the stretch
  pub switch_within : (over unit long den : ℕ) → over ≤ unit * gap → den ≡ unit * m → over * long * switch ≤ den * long
  switch_within over unit long den below is = omega (
    arith,
    mul-le-mul_right (long * switch) below,
    ap (λ n. unit * long * n) is_switch,
    ap (λ n. n * long) is,
  )

  -- so does the end of the work at this point
  pub step_within : (units unit long den : ℕ) → units ≤ speed * unit * long → den ≡ unit * m → units * step ≤ den * long
  step_within units unit long den below is = omega (
    arith,
    mul-le-mul_right step below,
    ap (λ n. unit * long * n) is_step,
    ap (λ n. n * long) is,
  )

-- a speed of at least 1 is that speed
at_least_one : (low : ℕ) → (low ≤ max low 1) × (1 ≤ max low 1)
at_least_one low = (omega arith, omega arith)

-- Of a split and a stretch.
module _ (split : Split) (stretch : Piece) (kept : IsSplit split) where
  -- what is done above the slower point's speed before the switch
  before_turn : (units surplus low gap high : ℕ) → low + gap ≡ high → units * gap ≤ high * surplus → (units - surplus) * gap ≤ max low 1 * surplus
  before_turn units surplus low gap high is below = elim (cases_lt units surplus) [
    | inl none ↦ (let nothing : units - surplus ≡ 0 = omega (arith, none) in omega (arith, ap (λ n. n * gap) nothing))
    | inr some ↦
        let parts : units ≡ surplus + (units - surplus) = omega (arith, some) in
        omega (arith, below, ap (λ n. n * surplus) is, ap (λ n. n * gap) parts, mul-le-mul_right surplus (at_least_one low).0)
  ]

  -- and after it
  after_turn : (units surplus low gap high all rest : ℕ) → low + gap ≡ high → 1 ≤ gap → all ≡ surplus + low * rest → units ≤ all →
      high * surplus < units * gap → (surplus ≤ units) × (max low 1 * surplus ≤ (units - surplus) * gap)
  after_turn units surplus low gap high all rest is some_gap is_all within above = elim (cases_lt surplus units) [
    | inr none ↦ absurd (omega (arith, above, ap (λ n. n * surplus) is, mul-le-mul_right gap none))
    | inl some ↦
        let parts : units ≡ surplus + (units - surplus) = omega (arith, some) in
        elim (cases_lt low 1) [
          | inl idle ↦ (let nothing : low ≡ 0 = omega (arith, idle) in absurd (omega (arith, is_all, within, some, ap (λ n. n * rest) nothing)))
          | inr runs ↦
              let plain : max low 1 ≡ low = omega (arith, runs) in
              (omega (arith, some), omega (arith, above, ap (λ n. n * surplus) is, ap (λ n. n * gap) parts, ap (λ n. n * surplus) plain))
        ]
  ]

  -- the level's work in the stretch
  all_parts : all_units split stretch ≡ surplus_of split stretch + split.low * (split.den * length_of stretch)
  all_parts = omega arith

  some_high : 1 ≤ split.high
  some_high = omega (arith, kept.is_gap, kept.some_gap)

  pub fast_switch_within : surplus_of split stretch * split.fast.switch ≤ split.fast.den * length_of stretch
  fast_switch_within = switch_within split.gap split.high (common_multiple split.high split.gap) split.fast.step split.fast.switch kept.some_gap some_high
      kept.fast.is_step kept.fast.is_switch split.surplus split.den (length_of stretch) split.fast.den (omega (arith, kept.below_high)) kept.fast.is_den

  pub slow_switch_within : surplus_of split stretch * split.slow.switch ≤ split.slow.den * length_of stretch
  slow_switch_within = switch_within split.gap (max split.low 1) (common_multiple (max split.low 1) split.gap) split.slow.step split.slow.switch kept.some_gap
      (at_least_one split.low).1
      kept.slow.is_step kept.slow.is_switch split.surplus split.den (length_of stretch) split.slow.den (omega (arith, kept.below_high)) kept.slow.is_den

  -- Up to the switch the time goes by the faster point.
  pub fast_before : (units : ℕ) → units * split.gap ≤ turn split stretch → units * split.fast.step ≤ surplus_of split stretch * split.fast.switch
  fast_before units below = by_step split.gap split.high (common_multiple split.high split.gap) split.fast.step split.fast.switch kept.some_gap some_high
      kept.fast.is_step kept.fast.is_switch units (surplus_of split stretch) below

  pub fast_after : (units : ℕ) → turn split stretch ≤ units * split.gap → surplus_of split stretch * split.fast.switch ≤ units * split.fast.step
  fast_after units above = by_switch split.gap split.high (common_multiple split.high split.gap) split.fast.step split.fast.switch kept.some_gap some_high
      kept.fast.is_step kept.fast.is_switch units (surplus_of split stretch) above

  -- From there on it goes by the slower one.
  pub slow_before : (units : ℕ) → units * split.gap ≤ turn split stretch →
      (units - surplus_of split stretch) * split.slow.step ≤ surplus_of split stretch * split.slow.switch
  slow_before units below = by_step split.gap (max split.low 1) (common_multiple (max split.low 1) split.gap) split.slow.step split.slow.switch kept.some_gap
      (at_least_one split.low).1 kept.slow.is_step kept.slow.is_switch (units - surplus_of split stretch) (surplus_of split stretch)
      (before_turn units (surplus_of split stretch) split.low split.gap split.high kept.is_gap below)

  turned : (units : ℕ) → units ≤ all_units split stretch → turn split stretch < units * split.gap →
      (surplus_of split stretch ≤ units) × (max split.low 1 * surplus_of split stretch ≤ (units - surplus_of split stretch) * split.gap)
  turned units within above = after_turn units (surplus_of split stretch) split.low split.gap split.high (all_units split stretch) (split.den * length_of stretch)
      kept.is_gap kept.some_gap all_parts within above

  pub surplus_done : (units : ℕ) → units ≤ all_units split stretch → turn split stretch < units * split.gap → surplus_of split stretch ≤ units
  surplus_done units within above = (turned units within above).0

  pub slow_after : (units : ℕ) → units ≤ all_units split stretch → turn split stretch < units * split.gap →
      surplus_of split stretch * split.slow.switch ≤ (units - surplus_of split stretch) * split.slow.step
  slow_after units within above = by_switch split.gap (max split.low 1) (common_multiple (max split.low 1) split.gap) split.slow.step split.slow.switch kept.some_gap
      (at_least_one split.low).1 kept.slow.is_step kept.slow.is_switch (units - surplus_of split stretch) (surplus_of split stretch) (turned units within above).1

  -- and never beyond the stretch
  pub fast_within : (units : ℕ) → units * split.gap ≤ turn split stretch → units * split.fast.step ≤ split.fast.den * length_of stretch
  fast_within units below = omega (arith, fast_before units below, fast_switch_within)

  pub slow_within : (units : ℕ) → units ≤ all_units split stretch → (units - surplus_of split stretch) * split.slow.step ≤ split.slow.den * length_of stretch
  slow_within units within =
      let rest : units - surplus_of split stretch ≤ max split.low 1 * split.den * length_of stretch = omega (
        arith,
        within,
        all_parts,
        mul-le-mul_right (split.den * length_of stretch) (at_least_one split.low).0,
      ) in
      step_within split.gap (max split.low 1) (common_multiple (max split.low 1) split.gap) split.slow.step split.slow.switch kept.some_gap (at_least_one split.low).1
      kept.slow.is_step kept.slow.is_switch (units - surplus_of split stretch) split.den (length_of stretch) split.slow.den rest kept.slow.is_den
