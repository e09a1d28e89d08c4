-- One of two intervals goes before the other, and what goes before one that goes before a third goes before that.
use Rattle.yds_model.proofs.Common.{◌≡◌, ℕ, ◌-◌, ◌*◌, ◌<◌, ◌≤◌, ◌⊎◌, inl, inr, sym, ap, refl, arith, cases_lt, cases_order, lt_of_mul-lt-mul_right, eq_of_mul-eq-mul_right, mul-le-mul_right, mul-lt-mul_of_pos_right}
use Rattle.yds_critical.specs.declared.interval.Interval.{Interval}
use Rattle.yds_critical.specs.Leading.{Leads, IsEarlier}
use Rattle.yds_critical.specs.Choice.{TakesTime}

earlier_total : (one other : Interval) → IsEarlier one other ⊎ IsEarlier other one
earlier_total one other = elim (cases_order one.start other.start) [
  | inl same ↦ elim (cases_lt one.end other.end) [ inl less ↦ inr (inr (sym same, omega arith)) | inr more ↦ inl (inr (same, more)) ]
  | inr (inl less) ↦ inl (inl less)
  | inr (inr more) ↦ inr (inl more)
]

pub leads_total : (one other : Interval) → Leads one other ⊎ Leads other one
leads_total one other = elim (cases_order (other.work * (one.end - one.start)) (one.work * (other.end - other.start))) [
  | inl same ↦ elim (earlier_total one other) [ inl first ↦ inl (inr (same, first)) | inr second ↦ inr (inr (sym same, second)) ]
  | inr (inl less) ↦ inl (inl less)
  | inr (inr more) ↦ inr (inl more)
]

earlier_trans : (one other third : Interval) → IsEarlier one other → IsEarlier other third → IsEarlier one third
earlier_trans one other third (inl a) (inl b) = inl (omega arith)
earlier_trans one other third (inl a) (inr b) = inl (omega arith)
earlier_trans one other third (inr a) (inl b) = inl (omega arith)
earlier_trans one other third (inr a) (inr b) = inr (omega arith, omega arith)

-- cross products, of works u, v, w and lengths a, b, c
less_second : (u v w a b c : ℕ) → v * a ≤ u * b → w * b < v * c → 0 < a → w * a < u * c
less_second u v w a b c first second some = lt_of_mul-lt-mul_right b (omega (arith, mul-lt-mul_of_pos_right second some, mul-le-mul_right c first))

less_first : (u v w a b c : ℕ) → v * a < u * b → w * b ≤ v * c → 0 < c → w * a < u * c
less_first u v w a b c first second some = lt_of_mul-lt-mul_right b (omega (arith, mul-lt-mul_of_pos_right first some, mul-le-mul_right a second))

same_both : (u v w a b c : ℕ) → v * a ≡ u * b → w * b ≡ v * c → 0 < b → w * a ≡ u * c
same_both u v w a b c first second some = eq_of_mul-eq-mul_right b some (w * a) (u * c) (omega (arith, ap (λ n. n * c) first, ap (λ n. n * a) second))

pub leads_trans : (one other third : Interval) → TakesTime one → TakesTime other → TakesTime third → Leads one other → Leads other third → Leads one third
leads_trans one other third f g h (inl denser) (inl second) =
    inl (less_second one.work other.work third.work (one.end - one.start) (other.end - other.start) (third.end - third.start) (omega arith) second (omega arith))
leads_trans one other third f g h (inl denser) (inr (as_dense, earlier)) =
    inl (less_first one.work other.work third.work (one.end - one.start) (other.end - other.start) (third.end - third.start) denser (omega arith) (omega arith))
leads_trans one other third f g h (inr (same, first)) (inl second) =
    inl (less_second one.work other.work third.work (one.end - one.start) (other.end - other.start) (third.end - third.start) (omega arith) second (omega arith))
leads_trans one other third f g h (inr (same, first)) (inr (as_dense, second)) = inr (
  same_both one.work other.work third.work (one.end - one.start) (other.end - other.start) (third.end - third.start) same as_dense (omega arith),
  earlier_trans one other third first second,
)

pub leads_itself : (one : Interval) → Leads one one
leads_itself one = inr (refl, inr (refl, omega arith))
