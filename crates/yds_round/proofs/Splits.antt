-- The numbers of a level whose speed lies between those of two points.
use Rattle.yds_model.proofs.Common.{◌≡◌, ℕ, ◌+◌, ◌-◌, ◌*◌, ◌/◌, ◌<◌, ◌≤◌, max, ap, arith, div-mul_cancel, div-le_self, lt_of_mul-lt-mul_right, common_divisor, Level, Point}
use Rattle.fraction_lemmas.proofs.Divisor.{divisor_is_greatest}
use Rattle.fraction_lemmas.proofs.Fractions.{factors}
use Rattle.base.specs.declared.limits.TheConstants.{MAX_LEVEL_LENGTH, MAX_LEVEL_WORK, MAX_POINT_SPEED}
use Rattle.yds_round.specs.declared.part.Part.{Part}
use Rattle.yds_round.specs.Part.{IsPart}
use Rattle.yds_round.specs.Split.{IsSplitOf}

-- work and length of a level over their greatest common divisor
module _ (work long d : ℕ) (some_length : 1 ≤ long) (is : d ≡ common_divisor work long) where
  -- the divisor divides the work
  pub work_over : work / d * d ≡ work
  work_over = rw is (div-mul_cancel (common_divisor work long) (divisor_is_greatest work long).0)

  -- and the length
  pub length_over : long / d * d ≡ long
  length_over = rw is (div-mul_cancel (common_divisor work long) (divisor_is_greatest work long).1)

  -- what is left of the length is at least 1
  pub some_den : 1 ≤ long / d
  some_den = (factors (long / d) d long length_over some_length).0

  -- the level is faster than this speed, also in lowest terms
  pub above_in_terms : (speed : ℕ) → speed * long < work → speed * (long / d) < work / d
  above_in_terms speed above = lt_of_mul-lt-mul_right d (omega (arith, above, work_over, ap (λ n. speed * n) length_over))

  -- or slower
  pub below_in_terms : (speed : ℕ) → work < speed * long → work / d < speed * (long / d)
  below_in_terms speed below = lt_of_mul-lt-mul_right d (omega (arith, below, work_over, ap (λ n. speed * n) length_over))

-- the level's work above the slower point's speed, in a time unit
surplus_is : (over low den : ℕ) → low * den < over → over - low * den + low * den ≡ over
surplus_is over low den above = omega (arith, above)

-- it is less than the two points are apart
surplus_below : (over low high den : ℕ) → low * den < over → over < high * den → low ≤ high → over - low * den < den * (high - low)
surplus_below over low high den above below order = grind arith

-- the slower of two speeds on both sides of a level's
pub speeds_rise : (low high work long : ℕ) → low * long < work → work < high * long → low < high
speeds_rise low high work long above below = lt_of_mul-lt-mul_right long (omega (arith, above, below))

pub split_is : (level : Level) (slower faster : Point) (d low high : ℕ) (fast slow : Part) → 1 ≤ level.length → level.length ≤ MAX_LEVEL_LENGTH →
    level.work ≤ MAX_LEVEL_WORK → faster.speed ≤ MAX_POINT_SPEED → d ≡ common_divisor level.work level.length → low ≡ slower.speed → high ≡ faster.speed →
    slower.speed * level.length < level.work → level.work < faster.speed * level.length →
    IsPart (level.length / d) (high - low) high fast → IsPart (level.length / d) (high - low) (max low 1) slow →
    IsSplitOf level slower faster (record {
      den = level.length / d;
      surplus = level.work / d - low * (level.length / d);
      low = low;
      high = high;
      gap = high - low;
      fast = fast;
      slow = slow;
    })
split_is level slower faster d low high fast slow some_length length_fits work_fits speed_fits is is_low is_high above below is_fast is_slow =
    let over = level.work / d in
    let den = level.length / d in
    let faster_than_low : low * den < over = rw is_low (above_in_terms level.work level.length d some_length is slower.speed above) in
    let slower_than_high : over < high * den = rw is_high (below_in_terms level.work level.length d some_length is faster.speed below) in
    let rises : low < high = rw (is_low, is_high) (speeds_rise slower.speed faster.speed level.work level.length above below) in
    let sum = surplus_is over low den faster_than_low in
    record {
      kept = record {
        some_den = some_den level.work level.length d some_length is;
        den_in_range = omega (arith, length_fits, div-le_self level.length d);
        some_gap = omega (arith, rises);
        is_gap = omega (arith, rises);
        speed_in_range = omega (arith, is_high, speed_fits);
        some_surplus = omega (arith, faster_than_low);
        below_high = surplus_below over low high den faster_than_low slower_than_high (omega (arith, rises));
        work_in_range = omega (arith, sum, work_fits, div-le_self level.work d);
        fast = is_fast;
        slow = is_slow;
      };
      is_low = is_low;
      is_high = is_high;
      is_den = ap (λ n. level.length / n) is;
      is_surplus = omega (arith, sum, ap (λ n. level.work / n) is, ap (λ n. slower.speed * (level.length / n)) is, ap (λ n. n * den) is_low);
    }
