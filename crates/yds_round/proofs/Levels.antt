-- Levels of different speeds: one that has a level's speed is that level.
use Rattle.yds_model.proofs.Common.{◌≡◌, ℕ, zero, suc, ◌*◌, ◌<◌, ◌≤◌, List, length, ap, arith, inl, inr, All, cases_lt, cases_eq, mul-lt-mul_of_pos_right, mul-le-mul_right, lt_of_mul-lt-mul_right, eq_of_mul-eq-mul_right, Each, Level, no_level, level_at, IsSlower}

-- speeds by their parts: what is slower than a slower one is slower
slower_on : (w l next long last over : ℕ) → 1 ≤ l → next * l < w * long → last * long < next * over → last * l < w * over
slower_on w l next long last over some first second =
    lt_of_mul-lt-mul_right long (omega (
      arith,
      mul-lt-mul_of_pos_right second some,
      mul-le-mul_right over (let at_most : next * l ≤ w * long = omega (arith, first) in at_most),
    ))

module _ (levels : List Level) (some : All (λ level. 1 ≤ level.length) levels) (falling : Each (length levels) (IsSlower levels)) where
  -- a later level is slower
  later_slower : (i j : ℕ) → i < j → j < length levels →
      (level_at levels j).work * (level_at levels i).length < (level_at levels i).work * (level_at levels j).length
  later_slower i zero less within = absurd (omega (arith, less))
  later_slower i (suc j) less within = elim (cases_eq i j) [
    | inl same ↦ rw same (falling (suc j) within j (omega arith))
    | inr other ↦
        slower_on (level_at levels i).work (level_at levels i).length (level_at levels j).work (level_at levels j).length (level_at levels (suc j)).work
        (level_at levels (suc j)).length (some i no_level (omega (arith, less, within))) (later_slower i j (omega (arith, less, other)) (omega (arith, within)))
        (falling (suc j) within j (omega arith))
  ]

  pub one_speed : (i j : ℕ) → i < length levels → j < length levels →
      (level_at levels i).work * (level_at levels j).length ≡ (level_at levels j).work * (level_at levels i).length → i ≡ j
  one_speed i j within inside same = elim (cases_lt i j) [
    | inl less ↦ absurd (omega (arith, same, later_slower i j less inside))
    | inr not_less ↦ elim (cases_lt j i) [
      | inl less ↦ absurd (omega (arith, same, later_slower j i less within))
      | inr not_more ↦ omega (arith, not_less, not_more)
    ]
  ]

-- in plain numbers: what does work at the speed work/long and at num/den, in lowest terms of which d is taken
pub same_speed : (w work long num den d over length time : ℕ) → 1 ≤ time → w * long ≡ work * time → w * den ≡ num * time → num * d ≡ over → den * d ≡ length →
    work * length ≡ over * long
same_speed w work long num den d over length time some one two of_work of_length =
    eq_of_mul-eq-mul_right time some (work * length) (over * long) (omega (
      arith,
      ap (λ n. n * (den * d)) one,
      ap (λ n. n * (long * d)) two,
      ap (λ n. n * (long * time)) of_work,
      ap (λ n. work * time * n) of_length,
    ))
