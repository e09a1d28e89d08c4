-- What is done above a speed is the same however the speed is written: p/q and r/s, where p * s ≡ r * q.
use Rattle.yds_model.proofs.Common.{◌≡◌, ℕ, ◌-◌, ◌*◌, ◌≤◌, List, ap, sym, ◌∙◌, arith, sum_by, mul-sub, mul-le-mul_right, le_of_mul-le-mul_right, eq_of_mul-eq-mul_right, Job, Fraction, numerator, WholeSlot, excess, Level, in_lowest_terms, IsLeastExcess, least_above, sum_by-mul, sum_by_same}
use Rattle.fraction_lemmas.proofs.LowestTerms.{lowest_same}
use Rattle.yds_laws.proofs.Curve.{curve, AreFalling}
use Rattle.yds_laws.proofs.LeastAbove.{above_curve}

-- of one work in one time
one_above : (p q r s work time : ℕ) → p * s ≡ r * q → s * (q * work - p * time) ≡ q * (s * work - r * time)
one_above p q r s work time same = omega (arith, mul-sub s (q * work) (p * time), mul-sub q (s * work) (r * time), ap (λ n. n * time) same)

-- of all together
sums_above : {X : Type 0} (work time : X → ℕ) (p q r s : ℕ) (xs : List X) → p * s ≡ r * q →
    s * sum_by (λ x. q * work x - p * time x) xs ≡ q * sum_by (λ x. s * work x - r * time x) xs
sums_above work time p q r s xs same =
    sym (sum_by-mul s (λ x. q * work x - p * time x) xs)
    ∙ sum_by_same (λ x. s * (q * work x - p * time x)) (λ x. q * (s * work x - r * time x)) xs (λ k d within. one_above p q r s _ _ same)
    ∙ sum_by-mul q (λ x. s * work x - r * time x) xs

-- the excess of a schedule
excess_same : (p q r s : ℕ) (slots : List WholeSlot) → p * s ≡ r * q → s * excess p q slots ≡ q * excess r s slots
excess_same p q r s slots same = sums_above (λ (slot : WholeSlot). slot.work) (λ (slot : WholeSlot). slot.to - slot.from) p q r s slots same

-- so the least excess is
pub least_same : (jobs : List Job) (p q r s : ℕ) (x : Fraction) → p * s ≡ r * q → 1 ≤ s → IsLeastExcess jobs p q x → IsLeastExcess jobs r s x
least_same jobs p q r s x same some is = record {
  is_speed = some;
  has_parts = is.has_parts;
  least = λ scale slots positive feasible.
      le_of_mul-le-mul_right {k = q} (omega (
        arith,
        mul-le-mul_right s (is.least scale slots positive feasible),
        ap (λ n. n * x.den) (excess_same p q r s slots same),
      )) is.is_speed;
  scale = is.scale;
  positive = is.positive;
  slots = is.slots;
  feasible = is.feasible;
  attained = eq_of_mul-eq-mul_right q is.is_speed (numerator x * (s * is.scale)) (excess r s is.slots * x.den) (omega (
    arith,
    ap (λ n. n * s) is.attained,
    ap (λ n. n * x.den) (excess_same p q r s is.slots same),
  ));
}

-- and what levels of falling speeds do
pub above_same : (p q r s : ℕ) (levels : List Level) → p * s ≡ r * q → 1 ≤ q → 1 ≤ s → AreFalling levels → least_above p q levels ≡ least_above r s levels
above_same p q r s levels same some_q some_s falling =
    let sums : s * curve p q levels ≡ q * curve r s levels = sums_above (λ (level : Level). level.work) (λ (level : Level). level.length) p q r s levels same in
    ap (λ n. in_lowest_terms n q) (above_curve p q levels falling)
    ∙ lowest_same (curve p q levels) q (curve r s levels) s some_q some_s (omega (arith, sums))
    ∙ ap (λ n. in_lowest_terms n s) (sym (above_curve r s levels falling))
