-- What the levels of a plan do above a speed leaves the straight line at the speed of each level.
use Rattle.yds_model.proofs.Common.{◌≡◌, ℕ, zero, suc, ◌+◌, ◌-◌, ◌*◌, ◌<◌, ◌≤◌, List, [], ◌∷◌, length, ap, arith, inl, inr, sum_by-cons, cases_lt, mul-pos, mul-le-mul_right, mul-lt-mul_of_pos_right, Job, numerator, Quotient, WrittenSlot, Level, no_level, level_at, IsPlan}
use Rattle.fraction_lemmas.proofs.Fractions.{at_most_still}
use Rattle.yds_laws.specs.CurveLaws.{excess_of, way, IsOnLine}
use Rattle.yds_laws.proofs.Curve.{curve}
use Rattle.yds_laws.proofs.CurveLine.{excess_value}

-- # One level

-- of numbers x + p * long ≡ q * work, .. , with the ways g, h and k: x is at most on the line through y and z, where z isn't less than the level's
under_line : (x y z g h k work long a b p q c d : ℕ) → x + p * long ≡ q * work → y + a * long ≡ b * work → d * work ≤ z + c * long →
    g + a * d ≡ c * b → h + p * d ≡ c * q → k + a * q ≡ p * b → x * g ≤ y * h + z * k
under_line x y z g h k work long a b p q c d of_x of_y of_z of_g of_h of_k =
    omega (
      arith,
      ap (λ n. n * g) of_x,
      ap (λ n. q * work * n) of_g,
      ap (λ n. p * long * n) of_g,
      ap (λ n. n * h) of_y,
      ap (λ n. b * work * n) of_h,
      ap (λ n. a * long * n) of_h,
      mul-le-mul_right k of_z,
      ap (λ n. d * work * n) of_k,
      ap (λ n. c * long * n) of_k,
    )

-- speeds a/b, p/q and c/d, each above the one before it
module _ (a b p q c d : ℕ) (some_b : 1 ≤ b) (some_q : 1 ≤ q) (from : a * q < p * b) (to : p * d < c * q) where
  abbrev g : ℕ
  g = c * b - a * d

  abbrev h : ℕ
  h = c * q - p * d

  abbrev k : ℕ
  k = p * b - a * q

  -- what a level does above the one between is at most on the line
  level_under : (level : Level) → (q * level.work - p * level.length) * g ≤ (b * level.work - a * level.length) * h + (d * level.work - c * level.length) * k
  level_under level = elim (cases_lt (p * level.length) (q * level.work)) [
    | inr slow ↦
        let none : q * level.work - p * level.length ≡ 0 = omega (arith, slow) in
        rw none (omega arith)
    | inl fast ↦
        let whole : a * d ≤ c * b = at_most_still a b p q c d some_q (omega (arith, from)) (omega (arith, to)) in
        let above : a * level.length ≤ level.work * b = at_most_still a b p q level.work level.length some_q (omega (arith, from)) (omega (arith, fast)) in
        under_line (q * level.work - p * level.length) (b * level.work - a * level.length) (d * level.work - c * level.length) g h k
        level.work level.length a b p q c d (omega (arith, fast)) (omega (arith, above)) (omega arith) (omega (arith, whole)) (omega (arith, to)) (omega (arith, from))
  ]

  -- so it is together
  levels_under : (levels : List Level) → curve p q levels * g ≤ curve a b levels * h + curve c d levels * k
  levels_under [] = omega arith
  levels_under (level ∷ levels) =
      omega (
        arith,
        level_under level,
        ap (λ n. n * g) (sum_by-cons (λ (one : Level). q * one.work - p * one.length) level levels),
        ap (λ n. n * h) (sum_by-cons (λ (one : Level). b * one.work - a * one.length) level levels),
        ap (λ n. n * k) (sum_by-cons (λ (one : Level). d * one.work - c * one.length) level levels),
        levels_under levels,
      )

  -- a level of just that speed does nothing above it, and something above the one before
  level_below : (level : Level) → 1 ≤ level.length → p * level.length ≡ level.work * q →
      (q * level.work - p * level.length) * g < (b * level.work - a * level.length) * h + (d * level.work - c * level.length) * k
  level_below level some same =
      let none : q * level.work - p * level.length ≡ 0 = omega (arith, same) in
      let faster : a * level.length * q < level.work * b * q =
      omega (arith, mul-lt-mul_of_pos_right {k = level.length} from some, ap (λ n. n * b) same) in
      let above : 1 ≤ b * level.work - a * level.length = elim (cases_lt (a * level.length) (level.work * b)) [
        | inl less ↦ omega (arith, less)
        | inr more ↦ absurd (omega (arith, faster, mul-le-mul_right q more))
      ] in
      let way_on : 1 ≤ h = omega (arith, to) in
      let part : 1 ≤ (b * level.work - a * level.length) * h = mul-pos above way_on in
      rw none (omega (arith, part))

  -- so with one of that speed it is below the line
  pub levels_below : (levels : List Level) (i : ℕ) → i < length levels → 1 ≤ (level_at levels i).length →
      p * (level_at levels i).length ≡ (level_at levels i).work * q → curve p q levels * g < curve a b levels * h + curve c d levels * k
  levels_below [] i within some same = absurd (omega (arith, within))
  levels_below (level ∷ levels) zero within some same =
      omega (
        arith,
        level_below level some same,
        ap (λ n. n * g) (sum_by-cons (λ (one : Level). q * one.work - p * one.length) level levels),
        ap (λ n. n * h) (sum_by-cons (λ (one : Level). b * one.work - a * one.length) level levels),
        ap (λ n. n * k) (sum_by-cons (λ (one : Level). d * one.work - c * one.length) level levels),
        levels_under levels,
      )
  levels_below (level ∷ levels) (suc i) within some same =
      omega (
        arith,
        level_under level,
        ap (λ n. n * g) (sum_by-cons (λ (one : Level). q * one.work - p * one.length) level levels),
        ap (λ n. n * h) (sum_by-cons (λ (one : Level). b * one.work - a * one.length) level levels),
        ap (λ n. n * k) (sum_by-cons (λ (one : Level). d * one.work - c * one.length) level levels),
        levels_below levels i (omega (arith, within)) some same,
      )

-- # The fractions

-- numbers below a line aren't on it as fractions
off_line : (x y z g h k b q d nx dx ny dy nz dz : ℕ) → 1 ≤ dx → 1 ≤ dy → 1 ≤ dz → nx * q ≡ x * dx → ny * b ≡ y * dy → nz * d ≡ z * dz → x * g < y * h + z * k →
    nx * q * g * (dy * dz) ≡ (ny * b * h * dz + nz * d * k * dy) * dx → ⊥
off_line x y z g h k b q d nx dx ny dy nz dz some_x some_y some_z of_x of_y of_z below on_line =
    let parts : 1 ≤ dx * dy * dz = mul-pos (mul-pos some_x some_y) some_z in
    absurd (omega (arith, mul-lt-mul_of_pos_right {k = dx * dy * dz} below parts, on_line, ap (λ n. n * g * (dy * dz)) of_x, ap (λ n. n * h * dz * dx) of_y, ap (λ n. n * k * dy * dx) of_z))

-- beyond the speed of a level of a plan
pub leaves_line : (jobs : List Job) (slots : List WrittenSlot) (levels : List Level) (slow speed fast : Quotient) (i : ℕ) → IsPlan jobs slots levels →
    1 ≤ slow.den → 1 ≤ speed.den → 1 ≤ fast.den → slow.num * speed.den < speed.num * slow.den → speed.num * fast.den < fast.num * speed.den →
    i < length levels → speed.num * (level_at levels i).length ≡ (level_at levels i).work * speed.den →
    IsOnLine slow speed fast (excess_of levels slow) (excess_of levels speed) (excess_of levels fast) → ⊥
leaves_line jobs slots levels slow speed fast i plan some_slow some some_fast from to within same on_line =
    let of_slow = excess_value jobs slots levels slow.num slow.den plan some_slow in
    let of_speed = excess_value jobs slots levels speed.num speed.den plan some in
    let of_fast = excess_value jobs slots levels fast.num fast.den plan some_fast in
    off_line (curve speed.num speed.den levels) (curve slow.num slow.den levels) (curve fast.num fast.den levels)
    (way slow fast) (way speed fast) (way slow speed) slow.den speed.den fast.den
    (numerator (excess_of levels speed)) (excess_of levels speed).den (numerator (excess_of levels slow)) (excess_of levels slow).den
    (numerator (excess_of levels fast)) (excess_of levels fast).den of_speed.has_parts of_slow.has_parts of_fast.has_parts
    of_speed.same of_slow.same of_fast.same
    (levels_below slow.num slow.den speed.num speed.den fast.num fast.den some_slow some from to levels i within
    (plan.proper.well_formed.positive i no_level within).1 same) on_line
