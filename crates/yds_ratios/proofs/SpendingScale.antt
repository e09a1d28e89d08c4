-- What slots spend at a multiple of a scale, and that one common scale decides.
use Rattle.yds_model.proofs.Common.{◌≡◌, ℕ, ◌+◌, ◌-◌, ◌*◌, ◌^◌, ◌≤◌, List, [], ◌∷◌, map, sym, ap, subst, ◌∙◌, arith, mul-pos, mul-sub, mul-le-mul_right, le_of_mul-le-mul_right, WrittenSlot, WholeSlot, IsScale, slots_at, Quotient}
use Rattle.model_lemmas.proofs.Scale.{finer, finer_slots}
use Rattle.std.proofs.Math.Nat.{one-le-pow}
use Rattle.std.proofs.lemmas.Nat.{mul-pow}
use Rattle.yds_laws.proofs.Bound.{scale_left, scale_right}
use Rattle.yds_ratios.specs.SpendingByPower.{slot_spending, spending, IsAtMostTimes}
use Rattle.yds_ratios.specs.RatioLaws.{OneScaleDecidesSpending}
use Rattle.yds_ratios.proofs.PassingTests.{factor_some}

-- one quotient is u/v times another; its denominator is a multiple of the other's
record IsTimes (u v : ℕ) (x y : Quotient) : Type 0 where
  more : ℕ
  some : 1 ≤ more
  den : x.den ≡ more * y.den
  num : x.num * v ≡ u * more * y.num

-- a finer slot
slot_times : (k a : ℕ) (slot : WholeSlot) → 1 ≤ k → IsTimes (k ^ a) (k ^ (a - 1)) (slot_spending a (finer k slot)) (slot_spending a slot)
slot_times k a slot some = record {
  more = k ^ (a - 1);
  some = one-le-pow (a - 1) k some;
  den = ap (λ x. x ^ (a - 1)) (sym (mul-sub k slot.to slot.from)) ∙ mul-pow k (slot.to - slot.from) (a - 1);
  num = omega (arith, ap (λ x. x * k ^ (a - 1)) (mul-pow k slot.work a));
}

-- in plain numbers: the numerator of a sum
sum_num : (u v c d xn xd yn yd pn pd qn qd : ℕ) → pd ≡ c * xd → qd ≡ d * yd → pn * v ≡ u * c * xn → qn * v ≡ u * d * yn →
    (pn * qd + qn * pd) * v ≡ u * (c * d) * (xn * yd + yn * xd)
sum_num u v c d xn xd yn yd pn pd qn qd first second one other =
    omega (
      arith,
      ap (λ x. pn * v * x) second,
      ap (λ x. qn * v * x) first,
      ap (λ x. x * (d * yd)) one,
      ap (λ x. x * (c * xd)) other,
    )

-- and finer slots
spending_times : (k a : ℕ) (slots : List WholeSlot) → 1 ≤ k → IsTimes (k ^ a) (k ^ (a - 1)) (spending a (map (finer k) slots)) (spending a slots)
spending_times k a [] some = record { more = 1; some = omega arith; den = omega arith; num = omega arith }
spending_times k a (slot ∷ slots) some =
    let here = slot_times k a slot some in
    let rest = spending_times k a slots some in
    record {
      more = here.more * rest.more;
      some = mul-pos here.some rest.some;
      den = omega (arith, ap (λ x. x * (spending a (map (finer k) slots)).den) here.den, ap (λ x. here.more * (slot_spending a slot).den * x) rest.den);
      num = sum_num (k ^ a) (k ^ (a - 1)) here.more rest.more (slot_spending a slot).num (slot_spending a slot).den (spending a slots).num (spending a slots).den
          (slot_spending a (finer k slot)).num (slot_spending a (finer k slot)).den (spending a (map (finer k) slots)).num (spending a (map (finer k) slots)).den
          here.den rest.den here.num rest.num;
    }

-- in plain numbers: both sides of a comparison, times u and both multiples, and times v
compared : (f u v c d xn xd yn yd pn pd qn qd : ℕ) → pd ≡ c * xd → qd ≡ d * yd → pn * v ≡ u * c * xn → qn * v ≡ u * d * yn →
    (pn * qd * v ≡ xn * yd * (u * (c * d))) × (f * qn * pd * v ≡ f * yn * xd * (u * (c * d)))
compared f u v c d xn xd yn yd pn pd qn qd first second one other = (
  omega (arith, ap (λ x. pn * v * x) second, ap (λ x. x * (d * yd)) one),
  omega (arith, ap (λ x. f * qn * v * x) first, ap (λ x. f * x * (c * xd)) other),
)

module _ (u v f : ℕ) (x y p q : Quotient) (u_some : 1 ≤ u) (v_some : 1 ≤ v) (first : IsTimes u v p x) (second : IsTimes u v q y) where
  both : (p.num * q.den * v ≡ x.num * y.den * (u * (first.more * second.more))) × (f * q.num * p.den * v ≡ f * y.num * x.den * (u * (first.more * second.more)))
  both = compared f u v first.more second.more x.num x.den y.num y.den p.num p.den q.num q.den first.den second.den first.num second.num

  -- what is at most so many times another at a scale is so at a multiple
  up : IsAtMostTimes f x y → IsAtMostTimes f p q
  up is = record {
    some = omega (arith, first.den, mul-pos first.some is.some);
    other_some = omega (arith, second.den, mul-pos second.some is.other_some);
    at_most = le_of_mul-le-mul_right {k = v} (omega (arith, both, mul-le-mul_right (u * (first.more * second.more)) is.at_most)) v_some;
  }

  -- and was before
  down : IsAtMostTimes f p q → IsAtMostTimes f x y
  down is = record {
    some = factor_some first.more x.den (omega (arith, is.some, first.den));
    other_some = factor_some second.more y.den (omega (arith, is.other_some, second.den));
    at_most = le_of_mul-le-mul_right {k = u * (first.more * second.more)} (omega (arith, both, mul-le-mul_right v is.at_most))
        (mul-pos u_some (mul-pos first.some second.some));
  }

-- slots at a multiple of their scale
at_times : (k scale a : ℕ) (slots : List WrittenSlot) → 1 ≤ k → IsScale scale slots →
    IsTimes (k ^ a) (k ^ (a - 1)) (spending a (slots_at (k * scale) slots)) (spending a (slots_at scale slots))
at_times k scale a slots some is =
    subst (λ (whole : List WholeSlot). IsTimes (k ^ a) (k ^ (a - 1)) (spending a whole) (spending a (slots_at scale slots)))
    (sym (finer_slots k scale slots is)) (spending_times k a (slots_at scale slots) some)

-- the law
pub one_scale_decides_spending : OneScaleDecidesSpending
one_scale_decides_spending a f scale slots others solid is most = record {
  solid = solid;
  at_most = λ other also.
      let left = scale_left scale slots others is in
      let right = scale_right scale slots others is in
      let other_left = scale_left other slots others also in
      let other_right = scale_right other slots others also in
      let turned : other * scale ≡ scale * other = omega arith in
      let at_product : IsAtMostTimes f (spending a (slots_at (other * scale) slots)) (spending a (slots_at (other * scale) others)) =
      up (other ^ a) (other ^ (a - 1)) f _ _ _ _ (one-le-pow a other also.positive) (one-le-pow (a - 1) other also.positive)
      (at_times other scale a slots also.positive left) (at_times other scale a others also.positive right) most in
      down (scale ^ a) (scale ^ (a - 1)) f _ _ _ _ (one-le-pow a scale is.positive) (one-le-pow (a - 1) scale is.positive)
      (at_times scale other a slots is.positive other_left) (at_times scale other a others is.positive other_right)
      (subst (λ (n : ℕ). IsAtMostTimes f (spending a (slots_at n slots)) (spending a (slots_at n others))) turned at_product);
}
