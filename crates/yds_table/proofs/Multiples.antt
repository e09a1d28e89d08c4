-- The least common multiple of the gaps between points of rising speed.
use Rattle.yds_model.proofs.Common.{◌≡◌, ℕ, ◌-◌, ◌*◌, ◌<◌, ◌≤◌, List, [], ◌∷◌, length, take, drop, refl, sym, ap, ◌∙◌, arith, Option, Some, None, MatchOption, slice_index_or, take_all, length-drop, mul-pos, dvd-mul_left, dvd-mul_right, le_of_dvd, common_multiple, multiple_of_all, Point, AreRising, gaps_of}
use Rattle.fraction_lemmas.proofs.Divisor.{multiple_is_least}
use Rattle.fraction_lemmas.proofs.Fractions.{den_positive}
use Rattle.base.specs.declared.limits.TheConstants.{MAX_GAPS}
use Rattle.yds_table.specs.Gaps.{IsMultipleOf}

multiple_some : (a b : ℕ) → 1 ≤ a → 1 ≤ b → 1 ≤ common_multiple a b
multiple_some a b some_a some_b =
    den_positive (a * b) (common_multiple a b) (mul-pos some_a some_b) ((multiple_is_least a b).2 (a * b) (dvd-mul_right a b) (dvd-mul_left b a))

-- it is at least that of the other gaps
others_below : (a b : ℕ) → 1 ≤ a → 1 ≤ b → b ≤ common_multiple a b
others_below a b some_a some_b = le_of_dvd (multiple_some a b some_a some_b) ((multiple_is_least a b).1)

pub rest_of : (points : List Point) → take (length points - 1) (drop 1 points) ≡ drop 1 points
rest_of points = take_all (length points - 1) (drop 1 points) (omega (arith, length-drop 1 points))

-- the first gap, and the multiple by that of the others
pub record Splits (points rest : List Point) (low high : Point) : Type 0 where
  pub gap : low.speed < high.speed
  pub multiple : multiple_of_all (gaps_of points) ≡ common_multiple (high.speed - low.speed) (multiple_of_all (gaps_of rest))

splits_by : (points rest : List Point) (low high : Point) → 2 ≤ length points → AreRising points → low ≡ slice_index_or points 0 low →
    rest ≡ drop 1 points → high ≡ slice_index_or rest 0 high → Splits points rest low high
splits_by [] rest low high two rising is_low is_rest is_high = absurd (omega arith)
splits_by (point ∷ []) rest low high two rising is_low is_rest is_high = absurd (omega arith)
splits_by (point ∷ next ∷ points) rest low high two rising is_low is_rest is_high =
    let second : high ≡ next = is_high ∙ ap (λ (all : List Point). slice_index_or all 0 high) is_rest in
    rw (is_rest, is_low, second) (record { gap = rising.0; multiple = refl })

pub splits : (points : List Point) (low high : Point) → 2 ≤ length points → AreRising points → low ≡ slice_index_or points 0 low →
    high ≡ slice_index_or (take (length points - 1) (drop 1 points)) 0 high → Splits points (take (length points - 1) (drop 1 points)) low high
splits points low high two rising is_low is_high =
    splits_by points (take (length points - 1) (drop 1 points)) low high two rising is_low (rest_of points) is_high

-- the others' multiple is too great
pub too_great : (points rest : List Point) (low high : Point) → Splits points rest low high → MAX_GAPS < multiple_of_all (gaps_of rest) →
    MAX_GAPS < multiple_of_all (gaps_of points)
too_great points rest low high splits above =
    omega (arith, others_below (high.speed - low.speed) (multiple_of_all (gaps_of rest)) (omega (arith, splits.gap)) (omega arith), splits.multiple)

whole_is : (points rest : List Point) (low high : Point) (gap multiple : ℕ) → Splits points rest low high → gap ≡ high.speed - low.speed →
    IsMultipleOf rest multiple → common_multiple gap multiple ≡ multiple_of_all (gaps_of points)
whole_is points rest low high gap multiple splits is others =
    ap (λ n. common_multiple n multiple) is ∙ ap (common_multiple (high.speed - low.speed)) others.is ∙ sym splits.multiple

-- the multiple of the gap and the others'
pub answers : (points rest : List Point) (low high : Point) (gap multiple : ℕ) (answer : Option ℕ) → Splits points rest low high →
    gap ≡ high.speed - low.speed → IsMultipleOf rest multiple →
    MatchOption answer (MAX_GAPS < common_multiple gap multiple) (λ m. (m ≡ common_multiple gap multiple) × (m ≤ MAX_GAPS)) →
    MatchOption answer (MAX_GAPS < multiple_of_all (gaps_of points)) (IsMultipleOf points)
answers points rest low high gap multiple None splits is others above =
    rw (← whole_is points rest low high gap multiple splits is others) above
answers points rest low high gap multiple (Some m) splits is others within = record {
  is = within.0 ∙ whole_is points rest low high gap multiple splits is others;
  some = rw (within.0) (multiple_some gap multiple (omega (arith, splits.gap)) others.some);
  within = within.1;
}
