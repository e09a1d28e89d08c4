-- The numbers of a part: its speed and the gap over their greatest common divisor.
use Rattle.yds_model.proofs.Common.{◌≡◌, ℕ, ◌*◌, ◌/◌, ◌≤◌, ap, arith, mul-le-mul, mul-pos, div-mul_cancel, div-le_self, common_divisor}
use Rattle.fraction_lemmas.proofs.Divisor.{divisor_is_greatest, divisor_positive}
use Rattle.fraction_lemmas.proofs.Fractions.{factors}
use Rattle.base.specs.declared.limits.TheConstants.{MAX_LEVEL_LENGTH, MAX_POINT_SPEED}
use Rattle.yds_round.specs.Part.{IsPart}

-- the numbers over the definition's divisor
part_by : (unit gap speed d : ℕ) → 1 ≤ unit → unit ≤ MAX_LEVEL_LENGTH → 1 ≤ gap → gap ≤ MAX_POINT_SPEED → 1 ≤ speed → speed ≤ MAX_POINT_SPEED →
    d ≡ common_divisor speed gap → gap / d * d ≡ gap → speed / d * d ≡ speed →
    IsPart unit gap speed (record { den = unit * (speed / d * gap); step = gap / d; switch = speed / d })
part_by unit gap speed d some_unit unit_fits some_gap gap_fits some_speed speed_fits is of_gap of_speed =
    let some_switch : 1 ≤ speed / d = (factors (speed / d) d speed of_speed some_speed).0 in
    let switch_fits : speed / d ≤ MAX_POINT_SPEED = omega (arith, div-le_self speed d) in
    record {
      is_den = ap (λ n. unit * (speed / n * gap)) is;
      is_step = omega (arith, ap (λ n. gap / d * n) of_speed, ap (λ n. speed / d * n) of_gap, ap (λ n. speed / n * gap) is);
      is_switch = ap (λ n. speed / n * gap) is;
      some = mul-pos some_unit (mul-pos some_switch some_gap);
      den_in_range = omega (arith, mul-le-mul unit_fits (mul-le-mul switch_fits gap_fits));
      step_in_range = omega (arith, div-le_self gap d);
      switch_in_range = switch_fits;
    }

pub part_is : (unit gap speed d : ℕ) → 1 ≤ unit → unit ≤ MAX_LEVEL_LENGTH → 1 ≤ gap → gap ≤ MAX_POINT_SPEED → 1 ≤ speed → speed ≤ MAX_POINT_SPEED →
    d ≡ common_divisor speed gap → IsPart unit gap speed (record { den = unit * (speed / d * gap); step = gap / d; switch = speed / d })
part_is unit gap speed d some_unit unit_fits some_gap gap_fits some_speed speed_fits is =
    let divides = divisor_is_greatest speed gap in
    part_by unit gap speed d some_unit unit_fits some_gap gap_fits some_speed speed_fits is
    (rw is (div-mul_cancel (common_divisor speed gap) divides.1)) (rw is (div-mul_cancel (common_divisor speed gap) divides.0))

-- so it is not 0
pub some_divisor : (a b d : ℕ) → 1 ≤ b → d ≡ common_divisor a b → 1 ≤ d
some_divisor a b d some is = omega (arith, is, divisor_positive a b some)
