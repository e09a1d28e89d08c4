-- The curve of a plan's levels goes in a straight line between two speeds with no break between them.
use Rattle.yds_model.proofs.Common.{◌≡◌, ℕ, ◌+◌, ◌-◌, ◌*◌, ◌/◌, ◌≤◌, ◌⊎◌, List, [], ◌∷◌, length, get_or, map, reverse, ap, subst, ◌∙◌, arith, inl, inr, All, get_or-map, get_or-reverse, length-map, length-reverse, sum_by-cons, All-tail, mul-le-mul_right, le_of_mul-le-mul_right, Job, Fraction, Quotient, numerator, of_whole, of_parts, WrittenSlot, Level, in_lowest_terms, common_divisor, IsPlan, least_above, Break, break_at, breaks_of, sum_by_zero}
use Rattle.fraction_lemmas.proofs.Divisor.{lowest_terms_are_one}
use Rattle.fraction_lemmas.proofs.LowestTerms.{HasValue, lowest_value}
use Rattle.fraction_lemmas.proofs.Fractions.{at_most_still}
use Rattle.yds_laws.specs.CurveLaws.{IsNotAbove, IsNotBelow, IsBetween, excess_of, way, IsOnLine, CurveIsStraight}
use Rattle.yds_laws.proofs.Curve.{curve}
use Rattle.yds_laws.proofs.Plans.{plan_falls}
use Rattle.yds_laws.proofs.LeastAbove.{above_curve}

-- # One level

-- of numbers x + p * long ≡ q * work, .. , with the ways g, h and k: the line through the numbers at a/b and c/d has x at p/q
line : (x y z g h k work long a b p q c d : ℕ) → x + p * long ≡ q * work → y + a * long ≡ b * work → z + c * long ≡ d * work →
    g + a * d ≡ c * b → h + p * d ≡ c * q → k + a * q ≡ p * b → x * g ≡ y * h + z * k
line x y z g h k work long a b p q c d of_x of_y of_z of_g of_h of_k =
    omega (
      arith,
      ap (λ n. n * g) of_x,
      ap (λ n. q * work * n) of_g,
      ap (λ n. p * long * n) of_g,
      ap (λ n. n * h) of_y,
      ap (λ n. b * work * n) of_h,
      ap (λ n. a * long * n) of_h,
      ap (λ n. n * k) of_z,
      ap (λ n. d * work * n) of_k,
      ap (λ n. c * long * n) of_k,
    )

-- speeds a/b, p/q and c/d, that don't fall
module _ (a b p q c d : ℕ) (some_b : 1 ≤ b) (some_q : 1 ≤ q) (some_d : 1 ≤ d) (from : a * q ≤ p * b) (to : p * d ≤ c * q) where
  -- the level isn't faster than the first, or isn't slower than the last
  abbrev IsBeside : Level → Type 0
  IsBeside level = (level.work * b ≤ a * level.length) ⊎ (c * level.length ≤ level.work * d)

  -- what one level does is on the line
  level_line : (level : Level) → IsBeside level →
      (q * level.work - p * level.length) * (c * b - a * d)
      ≡ (b * level.work - a * level.length) * (c * q - p * d) + (d * level.work - c * level.length) * (p * b - a * q)
  level_line level (inl slow) =
      let whole = at_most_still a b p q c d some_q from to in
      let at_speed = at_most_still level.work level.length a b p q some_b slow from in
      let at_last = at_most_still level.work level.length p q c d some_q at_speed to in
      let none : b * level.work - a * level.length ≡ 0 = omega (arith, slow) in
      let none_there : q * level.work - p * level.length ≡ 0 = omega (arith, at_speed) in
      let none_last : d * level.work - c * level.length ≡ 0 = omega (arith, at_last) in
      rw (none, none_there, none_last) (omega arith)
  level_line level (inr fast) =
      let whole = at_most_still a b p q c d some_q from to in
      let at_speed = at_most_still p q c d level.work level.length some_d to fast in
      let at_first = at_most_still a b p q level.work level.length some_q from at_speed in
      line (q * level.work - p * level.length) (b * level.work - a * level.length) (d * level.work - c * level.length)
      (c * b - a * d) (c * q - p * d) (p * b - a * q) level.work level.length a b p q c d
      (omega (arith, at_speed)) (omega (arith, at_first)) (omega (arith, fast)) (omega (arith, whole)) (omega (arith, to)) (omega (arith, from))

  -- so it is together
  levels_line : (levels : List Level) → All IsBeside levels →
      curve p q levels * (c * b - a * d) ≡ curve a b levels * (c * q - p * d) + curve c d levels * (p * b - a * q)
  levels_line [] beside = omega arith
  levels_line (level ∷ levels) beside =
      omega (
        arith,
        level_line level (beside 0 level (omega arith)),
        ap (λ n. n * (c * b - a * d)) (sum_by-cons (λ (one : Level). q * one.work - p * one.length) level levels),
        ap (λ n. n * (c * q - p * d)) (sum_by-cons (λ (one : Level). b * one.work - a * one.length) level levels),
        ap (λ n. n * (p * b - a * q)) (sum_by-cons (λ (one : Level). d * one.work - c * one.length) level levels),
        levels_line levels (All-tail IsBeside level levels beside),
      )

-- # The breaks

-- what holds of each break holds at each level's speed
at_levels : (P : Break → Type 0) (levels : List Level) → All P (breaks_of levels) → All (λ level. P (break_at levels level.work level.length)) levels
at_levels P levels each k d within =
    let bend : Level → Break = λ level. break_at levels level.work level.length in
    let back = length levels - 1 - k in
    let there : P (get_or (map bend (reverse levels)) back (bend d)) =
    All-tail P (break_at levels 0 1) (map bend (reverse levels)) each back (bend d) (omega (arith, within, length-map (reverse levels) bend, length-reverse levels)) in
    let back_again : length levels - 1 - back ≡ k = omega (arith, within) in
    let level_is : get_or (reverse levels) back d ≡ get_or levels k d =
    get_or-reverse levels back d (omega (arith, within)) ∙ ap (λ i. get_or levels i d) back_again in
    subst P (get_or-map bend (reverse levels) back d (bend d) (omega (arith, within, length-reverse levels)) ∙ ap bend level_is) there

-- a fraction that has a level's speed is at most a speed, or at least it, as the level's work and length say
not_above : (work long num den : ℕ) (x : Fraction) → HasValue work long x → IsNotAbove (record { num = num; den = den }) x → work * den ≤ num * long
not_above work long num den x value at_most =
    le_of_mul-le-mul_right {k = x.den} (omega (arith, ap (λ n. n * den) value.same, mul-le-mul_right long at_most)) value.has_parts

not_below : (work long num den : ℕ) (x : Fraction) → HasValue work long x → IsNotBelow (record { num = num; den = den }) x → num * long ≤ work * den
not_below work long num den x value at_least =
    le_of_mul-le-mul_right {k = x.den} (omega (arith, ap (λ n. n * den) value.same, mul-le-mul_right long at_least)) value.has_parts

-- # The laws

-- numbers on a line, as fractions
line_of_fractions : (x y z g h k b q d nx dx ny dy nz dz : ℕ) → nx * q ≡ x * dx → ny * b ≡ y * dy → nz * d ≡ z * dz → x * g ≡ y * h + z * k →
    nx * q * g * (dy * dz) ≡ (ny * b * h * dz + nz * d * k * dy) * dx
line_of_fractions x y z g h k b q d nx dx ny dy nz dz of_x of_y of_z on_line =
    rw (of_x, of_y, of_z) (omega (arith, ap (λ n. n * (dx * dy * dz)) on_line))

-- the excess of a plan's levels above a speed, as a value
pub excess_value : (jobs : List Job) (slots : List WrittenSlot) (levels : List Level) (p q : ℕ) → IsPlan jobs slots levels → 1 ≤ q →
    HasValue (curve p q levels) q (least_above p q levels)
excess_value jobs slots levels p q plan some =
    subst (λ (n : ℕ). HasValue n q (least_above p q levels)) (above_curve p q levels (plan_falls jobs slots levels plan)) (lowest_value _ q some)

-- neighbours around a speed: the level is at most the slower one's speed, or at least the faster one's
level_beside : (level : Level) (slow fast : Quotient) → 1 ≤ level.length →
    IsNotAbove slow (in_lowest_terms level.work level.length) ⊎ IsNotBelow fast (in_lowest_terms level.work level.length) →
    (level.work * slow.den ≤ slow.num * level.length) ⊎ (fast.num * level.length ≤ level.work * fast.den)
level_beside level slow fast some (inl at_most) = inl (not_above level.work level.length slow.num slow.den _ (lowest_value level.work level.length some) at_most)
level_beside level slow fast some (inr at_least) = inr (not_below level.work level.length fast.num fast.den _ (lowest_value level.work level.length some) at_least)

-- between two neighbouring breaks
straight : (jobs : List Job) (slots : List WrittenSlot) (levels : List Level) (slow speed fast : Quotient) → IsPlan jobs slots levels →
    IsBetween levels slow speed fast → IsOnLine slow speed fast (excess_of levels slow) (excess_of levels speed) (excess_of levels fast)
straight jobs slots levels slow speed fast plan between =
    let beside = at_levels (λ bend. IsNotAbove slow bend.speed ⊎ IsNotBelow fast bend.speed) levels between.no_break in
    let first = excess_of levels slow in
    let x = excess_of levels speed in
    let last = excess_of levels fast in
    line_of_fractions (curve speed.num speed.den levels) (curve slow.num slow.den levels) (curve fast.num fast.den levels)
    (way slow fast) (way speed fast) (way slow speed) slow.den speed.den fast.den
    (numerator x) x.den (numerator first) first.den (numerator last) last.den
    (excess_value jobs slots levels speed.num speed.den plan between.has_parts).same
    (excess_value jobs slots levels slow.num slow.den plan between.slow_has_parts).same
    (excess_value jobs slots levels fast.num fast.den plan between.fast_has_parts).same
    (levels_line slow.num slow.den speed.num speed.den fast.num fast.den between.slow_has_parts between.has_parts between.fast_has_parts between.from between.to levels
    (λ k d within. level_beside (get_or levels k d) slow fast (plan.proper.well_formed.positive k d within).1 (beside k d within)))

-- no parts in lowest terms are 0
lowest_zero : (den : ℕ) → 1 ≤ den → in_lowest_terms 0 den ≡ of_whole 0
lowest_zero den some =
    let terms = lowest_terms_are_one 0 den 0 1 some (omega arith) (omega arith) in
    ap (λ n. of_parts n (den / common_divisor 0 den)) terms.0 ∙ ap (λ d. of_parts 0 d) terms.1

-- above the last break
nothing_above : (jobs : List Job) (slots : List WrittenSlot) (levels : List Level) (speed : Quotient) → IsPlan jobs slots levels → 1 ≤ speed.den →
    All (λ bend. IsNotAbove speed bend.speed) (breaks_of levels) → excess_of levels speed ≡ of_whole 0
nothing_above jobs slots levels speed plan some each =
    let slow = at_levels (λ bend. IsNotAbove speed bend.speed) levels each in
    let none : curve speed.num speed.den levels ≡ 0 =
    sum_by_zero (λ level. speed.den * level.work - speed.num * level.length) levels
    (λ k d within. let level = get_or levels k d in
    omega (
      arith,
      not_above level.work level.length speed.num speed.den _ (lowest_value level.work level.length (plan.proper.well_formed.positive k d within).1) (slow k d within),
    )) in
    ap (λ n. in_lowest_terms n speed.den) (above_curve speed.num speed.den levels (plan_falls jobs slots levels plan) ∙ none) ∙ lowest_zero speed.den some

-- the law of both
pub curve_is_straight : CurveIsStraight
curve_is_straight = record { between = straight; above = nothing_above }
