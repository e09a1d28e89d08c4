-- A table is too slow for a plan's first level exactly where no feasible schedule stays at or below its top speed.
use Rattle.yds_model.proofs.Common.{◌≡◌, ℕ, ◌-◌, ◌*◌, ◌<◌, List, [], ◌∷◌, length, get_or, map, ap, arith, inl, inr, All, mul-pos, cases_lt, get_or-le-sum_by, Job, WrittenSlot, WholeSlot, slots_at, excess, Level, IsPlan, Point, top_of, IsTooFast, IsWithinTop, CanServe, sum_by_zero}
use Rattle.model_lemmas.proofs.Scale.{scale_exists, finer, finer_excess, feasible_finer}
use Rattle.yds_energy.specs.RoundingLaws.{TooSlowIsExact}
use Rattle.yds_energy.proofs.PlanParts.{scale_times}
use Rattle.yds_laws.proofs.Curve.{curve, IsSlowFirst, curve_slow}
use Rattle.yds_laws.proofs.Plans.{plans_are_least, plan_falls, plan_excess}

-- slots at or below a speed do nothing above it
within_none : (top : ℕ) (slots : List WholeSlot) → All (IsWithinTop top) slots → excess top 1 slots ≡ 0
within_none top slots within =
    sum_by_zero (λ slot. 1 * slot.work - top * (slot.to - slot.from)) slots (λ k d inside. omega (arith, within k d inside))

-- and slots that do nothing above a speed stay at or below it
pub none_within : (top : ℕ) (slots : List WholeSlot) → excess top 1 slots ≡ 0 → All (IsWithinTop top) slots
none_within top slots none k d inside = grind (arith, get_or-le-sum_by)

-- a level of a plan that is faster than a speed shows that no feasible schedule stays at or below it
unserved : (top : ℕ) (jobs : List Job) (slots : List WrittenSlot) (levels : List Level) (k : ℕ) (level : Level) → IsPlan jobs slots levels → k < length levels →
    top * (get_or levels k level).length < (get_or levels k level).work → CanServe top jobs → ⊥
unserved top jobs slots levels k level plan within fast served =
    let scale = scale_exists slots plan.proper.feasible.solid in
    let common = scale_times scale.0 served.scale slots served.positive scale.1 in
    let least = (plans_are_least jobs slots levels plan).0.holds (scale.0 * served.scale) common in
    let none : excess top 1 (map (finer scale.0) served.slots) ≡ 0 =
    omega (arith, finer_excess scale.0 top 1 served.slots, ap (λ n. scale.0 * n) (within_none top served.slots served.within_top)) in
    let most = least.least top 1 (omega arith) (map (finer scale.0) served.slots) (feasible_finer jobs scale.0 served.scale served.slots scale.1.positive served.feasible) in
    let part = get_or-le-sum_by (λ (one : Level). 1 * one.work - top * one.length) levels k level within in
    let some : 0 < curve top 1 levels = omega (arith, part, fast) in
    let more : 0 < scale.0 * served.scale * curve top 1 levels = mul-pos common.positive some in
    absurd (omega (arith, more, plan_excess jobs slots levels (scale.0 * served.scale) top 1 plan common (omega arith), most, none))

-- where the first level isn't faster the plan's own schedule does
served_slow : (top : ℕ) (jobs : List Job) (slots : List WrittenSlot) (levels : List Level) → IsPlan jobs slots levels → IsSlowFirst top 1 levels → CanServe top jobs
served_slow top jobs slots levels plan slow =
    let scale = scale_exists slots plan.proper.feasible.solid in
    let nothing : curve top 1 levels ≡ 0 = curve_slow top 1 levels (plan_falls jobs slots levels plan) slow in
    record {
      scale = scale.0;
      positive = scale.1.positive;
      slots = slots_at scale.0 slots;
      feasible = plan.proper.feasible.holds scale.0 scale.1;
      within_top = none_within top (slots_at scale.0 slots)
          (omega (arith, plan_excess jobs slots levels scale.0 top 1 plan scale.1 (omega arith), ap (λ n. scale.0 * n) nothing));
    }

-- the first level is too fast, or the plan's schedule serves
first_is : (jobs : List Job) (points : List Point) (slots : List WrittenSlot) (level : Level) (levels : List Level) → IsPlan jobs slots (level ∷ levels) →
    (CanServe (top_of points) jobs → ⊥) → IsTooFast points level
first_is jobs points slots level levels plan none = elim (cases_lt (top_of points * level.length) level.work) [
  | inl fast ↦ fast
  | inr slow ↦ absurd (none (served_slow (top_of points) jobs slots (level ∷ levels) plan (omega (arith, slow))))
]

-- where none of the levels is too fast the plan's schedule serves
none_is : (jobs : List Job) (points : List Point) (slots : List WrittenSlot) (levels : List Level) → IsPlan jobs slots levels →
    All (λ level. IsTooFast points level → ⊥) levels → CanServe (top_of points) jobs
none_is jobs points slots [] plan none = served_slow (top_of points) jobs slots [] plan tt
none_is jobs points slots (level ∷ levels) plan none = elim (cases_lt (top_of points * level.length) level.work) [
  | inl fast ↦ absurd (none 0 level (omega arith) fast)
  | inr slow ↦ served_slow (top_of points) jobs slots (level ∷ levels) plan (omega (arith, slow))
]

-- the law of both
pub too_slow_is_exact : TooSlowIsExact
too_slow_is_exact = record {
  first = λ jobs points slots level levels plan. (
    λ fast served. unserved (top_of points) jobs slots (level ∷ levels) 0 level plan (omega arith) fast served,
    λ none. first_is jobs points slots level levels plan none,
  );
  none = λ jobs points slots levels plan. (
    λ none. none_is jobs points slots levels plan none,
    λ served k level within fast. unserved (top_of points) jobs slots levels k level plan within fast served,
  );
}
