-- The law of scale: what a written schedule is at a multiple of one of its scales.
use Rattle.std.proofs.Common.{◌≡◌, ℕ, ◌+◌, ◌-◌, ◌*◌, ◌/◌, ◌≤◌, List, [], ◌∷◌, map, ap, subst, sym, ◌∙◌, refl, arith, Bool, true, false, mul_left_comm}
use Rattle.std.specs.Prelude.{sum_by, ◌==◌, if◌then◌else◌, ◌↔◌}
use Rattle.std.specs.List.{All, AllByRecursion}
use Rattle.std.specs.Int.{◌∣◌}
use Rattle.std.proofs.lemmas.List.Sums.{sum_by-cons}
use Rattle.std.proofs.lemmas.List.Elements.{recursion_from_All, All-from_recursion, All-nil, All-cons, All-weaker}
use Rattle.std.proofs.Math.Nat.{mul-div_assoc, mul_comm, mul-zero, mul-pos, mul-sub, mul-le-mul_left, mul-lt-mul_of_pos_left, le_of_mul-le-mul_left, lt_of_mul-lt-mul_left, eq_of_mul-eq-mul_left, dvd-mul_left, dvd-mul_right, dvd-mul_left_of_dvd, dvd-mul_right_of_dvd}
use Rattle.yds_model.specs.Job.{Job, job_at}
use Rattle.yds_model.specs.Scale.{Fraction, at_scale}
use Rattle.yds_model.specs.Slot.{WrittenSlot, WholeSlot, IsDivided, IsScale, IsSolid, AtEachScale, slot_at_scale, slots_at, work_given}
use Rattle.yds_model.specs.Feasible.{RunFrom, IsInWindow, IsFeasibleAt}
use Rattle.yds_model.specs.Excess.{excess}
use Rattle.fraction_lemmas.proofs.Fractions.{den_positive}
use Rattle.yds_model.specs.ScaleLaws.{ScaleKeepsFeasible, ScaleMultipliesExcess, OneScaleDecides, ScaleExists}

-- the slot in parts that are k times as fine
abbrev pub finer : ℕ → WholeSlot → WholeSlot
finer k slot = record { job = slot.job; from = k * slot.from; to = k * slot.to; work = k * slot.work }

-- a fraction whose part's quotient is k times another's
value_split : (whole num k scale quotient finer : ℕ) → finer ≡ k * quotient → whole * (k * scale) + num * finer ≡ k * (whole * scale + num * quotient)
value_split whole num k scale quotient finer e = omega (arith, ap (λ n. num * n) e)

-- a fraction at k times a scale of it
pub finer_value : (k scale : ℕ) (x : Fraction) → x.den ∣ scale → at_scale (k * scale) x ≡ k * at_scale scale x
finer_value k scale x divides = value_split x.whole x.num k scale (scale / x.den) (k * scale / x.den) (mul-div_assoc x.den k divides)

-- a slot at k times a scale of it
pub finer_slot : (k scale : ℕ) (slot : WrittenSlot) → IsDivided scale slot → slot_at_scale (k * scale) slot ≡ finer k (slot_at_scale scale slot)
finer_slot k scale slot divided =
    cc (finer_value k scale slot.from divided.from, finer_value k scale slot.to divided.to, finer_value k scale slot.work divided.work)

-- slots at k times a scale of them, one by one
finer_each : (k scale : ℕ) (slots : List WrittenSlot) → AllByRecursion (IsDivided scale) slots →
    slots_at (k * scale) slots ≡ map (finer k) (slots_at scale slots)
finer_each k scale [] _ = refl
finer_each k scale (slot ∷ slots) divided = cc (finer_slot k scale slot divided.0, finer_each k scale slots divided.1)

-- and together
pub finer_slots : (k scale : ℕ) (slots : List WrittenSlot) → IsScale scale slots → slots_at (k * scale) slots ≡ map (finer k) (slots_at scale slots)
finer_slots k scale slots is = finer_each k scale slots (recursion_from_All (IsDivided scale) slots is.divided)

-- what each finer slot has k times, they have k times together
pub finer_sum : (k : ℕ) (f : WholeSlot → ℕ) → ((slot : WholeSlot) → f (finer k slot) ≡ k * f slot) → (slots : List WholeSlot) →
    sum_by f (map (finer k) slots) ≡ k * sum_by f slots
finer_sum k f each [] = omega arith
finer_sum k f each (slot ∷ slots) =
    omega (arith, sum_by-cons f (finer k slot) (map (finer k) slots), sum_by-cons f slot slots, each slot, finer_sum k f each slots, ap (λ n. k * n) (sum_by-cons f slot slots))

-- what a finer slot does above p/q is k times what the slot does
excess_split : (k p q work from to : ℕ) → q * (k * work) - p * (k * to - k * from) ≡ k * (q * work - p * (to - from))
excess_split k p q work from to =
    rw (mul-sub k (q * work) (p * (to - from)), ← mul-sub k to from) (omega arith)

-- so the excess is k times what it was
pub finer_excess : (k p q : ℕ) (slots : List WholeSlot) → excess p q (map (finer k) slots) ≡ k * excess p q slots
finer_excess k p q slots =
    finer_sum k (λ slot. q * slot.work - p * (slot.to - slot.from)) (λ slot. excess_split k p q slot.work slot.from slot.to) slots

-- a finer slot gives a job k times the work, or nothing as before
pub given_split : (k work : ℕ) (mine : Bool) → (if mine then k * work else 0) ≡ k * (if mine then work else 0)
given_split k work true = refl
given_split k work false = omega arith

-- so a job is given k times the work
pub finer_work : (k : ℕ) (slots : List WholeSlot) (job : ℕ) → work_given (map (finer k) slots) job ≡ k * work_given slots job
finer_work k slots job =
    finer_sum k (λ slot. if job == slot.job then slot.work else 0) (λ slot. given_split k slot.work (job == slot.job)) slots

-- the law: at k times a scale each excess is k times what it was
pub excess_scaled : ScaleMultipliesExcess
excess_scaled slots scale k p q is = ap (excess p q) (finer_slots k scale slots is) ∙ finer_excess k p q (slots_at scale slots)

-- Feasible at a scale is feasible at k times it, and back.
pub run_finer : (k start : ℕ) (slots : List WholeSlot) → 1 ≤ k → RunFrom start slots → RunFrom (k * start) (map (finer k) slots)
run_finer k start [] some run = tt
run_finer k start (slot ∷ slots) some run =
    (mul-le-mul_left k run.0, mul-lt-mul_of_pos_left run.1 some, run_finer k slot.to slots some run.2)

-- and did before
pub run_coarser : (k start : ℕ) (slots : List WholeSlot) → 1 ≤ k → RunFrom (k * start) (map (finer k) slots) → RunFrom start slots
run_coarser k start [] some run = tt
run_coarser k start (slot ∷ slots) some run =
    (le_of_mul-le-mul_left run.0 some, lt_of_mul-lt-mul_left k run.1, run_coarser k slot.to slots some run.2)

-- a slot in its job's window still is
window_finer : (jobs : List Job) (k scale : ℕ) (slot : WholeSlot) → IsInWindow jobs scale slot → IsInWindow jobs (k * scale) (finer k slot)
window_finer jobs k scale slot window = grind (arith, mul-le-mul_left, mul_left_comm)

-- and was before
window_coarser : (jobs : List Job) (k scale : ℕ) (slot : WholeSlot) → 1 ≤ k → IsInWindow jobs (k * scale) (finer k slot) → IsInWindow jobs scale slot
window_coarser jobs k scale slot some window = grind (arith, le_of_mul-le-mul_left, mul_left_comm)

-- and so are all slots
windows_finer : (jobs : List Job) (k scale : ℕ) (slots : List WholeSlot) → AllByRecursion (IsInWindow jobs scale) slots →
    AllByRecursion (IsInWindow jobs (k * scale)) (map (finer k) slots)
windows_finer jobs k scale [] windows = tt
windows_finer jobs k scale (slot ∷ slots) windows = (window_finer jobs k scale slot windows.0, windows_finer jobs k scale slots windows.1)

-- and were before
windows_coarser : (jobs : List Job) (k scale : ℕ) (slots : List WholeSlot) → 1 ≤ k →
    AllByRecursion (IsInWindow jobs (k * scale)) (map (finer k) slots) → AllByRecursion (IsInWindow jobs scale) slots
windows_coarser jobs k scale [] some windows = tt
windows_coarser jobs k scale (slot ∷ slots) some windows =
    (window_coarser jobs k scale slot some windows.0, windows_coarser jobs k scale slots some windows.1)

-- so a feasible schedule is feasible at k times its scale
pub feasible_finer : (jobs : List Job) (k scale : ℕ) (slots : List WholeSlot) → 1 ≤ k → IsFeasibleAt jobs scale slots →
    IsFeasibleAt jobs (k * scale) (map (finer k) slots)
feasible_finer jobs k scale slots some feasible = record {
  one_at_a_time = subst (λ (start : ℕ). RunFrom start (map (finer k) slots)) (mul-zero k) (run_finer k 0 slots some feasible.one_at_a_time);
  in_windows = All-from_recursion (IsInWindow jobs (k * scale)) (map (finer k) slots)
      (windows_finer jobs k scale slots (recursion_from_All (IsInWindow jobs scale) slots feasible.in_windows));
  served = λ number known. finer_work k slots number ∙ ap (λ n. k * n) (feasible.served number known) ∙ sym (mul_left_comm (job_at jobs number).work k scale);
}

-- and one that is so was feasible before
pub feasible_coarser : (jobs : List Job) (k scale : ℕ) (slots : List WholeSlot) → 1 ≤ k → IsFeasibleAt jobs (k * scale) (map (finer k) slots) →
    IsFeasibleAt jobs scale slots
feasible_coarser jobs k scale slots some feasible = record {
  one_at_a_time = run_coarser k 0 slots some (subst (λ (start : ℕ). RunFrom start (map (finer k) slots)) (sym (mul-zero k)) feasible.one_at_a_time);
  in_windows = All-from_recursion (IsInWindow jobs scale) slots
      (windows_coarser jobs k scale slots some (recursion_from_All (IsInWindow jobs (k * scale)) (map (finer k) slots) feasible.in_windows));
  served = λ number known. eq_of_mul-eq-mul_left k some (work_given slots number) ((job_at jobs number).work * scale)
      (sym (finer_work k slots number) ∙ feasible.served number known ∙ mul_left_comm (job_at jobs number).work k scale);
}

-- the law of both
pub feasible_scaled : ScaleKeepsFeasible
feasible_scaled jobs slots scale k is some =
    let e = finer_slots k scale slots is in (
      λ feasible. subst (IsFeasibleAt jobs (k * scale)) (sym e) (feasible_finer jobs k scale (slots_at scale slots) some feasible),
      λ feasible. feasible_coarser jobs k scale (slots_at scale slots) some (subst (IsFeasibleAt jobs (k * scale)) e feasible),
    )

-- slots that have a scale have denominators of at least 1
pub solid_of_scale : (slots : List WrittenSlot) (scale : ℕ) → IsScale scale slots → All IsSolid slots
solid_of_scale slots scale is = All-weaker (IsDivided scale) IsSolid
    (λ slot divided. record {
      from = den_positive scale slot.from.den is.positive divided.from;
      to = den_positive scale slot.to.den is.positive divided.to;
      work = den_positive scale slot.work.den is.positive divided.work;
    }) slots is.divided

-- P holds of written slots at a scale of them exactly where it does at a multiple of it
abbrev pub IsKept : List WrittenSlot → (ℕ → List WholeSlot → Type 0) → Type 0
IsKept slots P = (scale k : ℕ) → IsScale scale slots → 1 ≤ k → (P scale (slots_at scale slots) ↔ P (k * scale) (slots_at (k * scale) slots))

-- then one scale decides: up by the other scale, and down by the first
pub one_scale_of : (slots : List WrittenSlot) (P : ℕ → List WholeSlot → Type 0) → IsKept slots P → (scale : ℕ) → IsScale scale slots →
    P scale (slots_at scale slots) → AtEachScale slots P
one_scale_of slots P kept scale is at_one = record {
  solid = solid_of_scale slots scale is;
  holds = λ other is_other.
      (kept other scale is_other is.positive).1
      (subst (λ (both : ℕ). P both (slots_at both slots)) (mul_comm other scale) ((kept scale other is is_other.positive).0 at_one));
}

-- the law: one scale decides
pub one_scale_decides : OneScaleDecides
one_scale_decides jobs slots scale is feasible = one_scale_of slots (IsFeasibleAt jobs) (feasible_scaled jobs slots) scale is feasible

-- a multiple of a scale is one
coarsest : (k scale : ℕ) (slot : WrittenSlot) → IsDivided scale slot → IsDivided (k * scale) slot
coarsest k scale slot divided = grind (arith, dvd-mul_left_of_dvd)

-- a slot's denominators divide their product, and each multiple of it
product_divided : (scale : ℕ) (slot : WrittenSlot) → IsDivided (slot.from.den * slot.to.den * slot.work.den * scale) slot
product_divided scale slot = grind (arith, dvd-mul_left, dvd-mul_right, dvd-mul_right_of_dvd)

-- the product of all denominators is a scale
scale_of : (slots : List WrittenSlot) → AllByRecursion IsSolid slots → (scale : ℕ) × IsScale scale slots
scale_of [] _ = (1, record { positive = omega arith; divided = All-nil (IsDivided 1) })
scale_of (slot ∷ slots) solid =
    let rest = scale_of slots solid.1 in
    let dens = slot.from.den * slot.to.den * slot.work.den in (
      dens * rest.0,
      record {
        positive = mul-pos (mul-pos (mul-pos solid.0.from solid.0.to) solid.0.work) rest.1.positive;
        divided = All-cons (IsDivided (dens * rest.0)) slot slots (product_divided rest.0 slot)
            (All-weaker (IsDivided rest.0) (IsDivided (dens * rest.0)) (coarsest dens rest.0) slots rest.1.divided);
      },
    )

-- the law: so there is one
pub scale_exists : ScaleExists
scale_exists slots solid = scale_of slots (recursion_from_All IsSolid slots solid)
