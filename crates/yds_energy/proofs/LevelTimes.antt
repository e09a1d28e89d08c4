-- How long a plan's slots run: those of a level as long as the level, and all together at most the horizon.
use Rattle.yds_model.proofs.Common.{◌≡◌, ℕ, ◌-◌, ◌*◌, ◌≤◌, List, [], ◌∷◌, get_or, sym, ap, ◌∙◌, arith, sum_by, All, All-tail, sum_by-cons, le_of_mul-le-mul_left, Job, WrittenSlot, WholeSlot, IsScale, slots_at, Level, all_members, IsPlan, busy, horizon}
use Rattle.model_lemmas.proofs.Horizon.{busy_and_idle}
use Rattle.model_lemmas.proofs.Scale.{scale_exists}
use Rattle.yds_energy.specs.RoundingLaws.{LevelsFitTheHorizon}
use Rattle.yds_laws.proofs.Group.{group, group-nil, group-append}
use Rattle.yds_laws.proofs.Exact.{level_time}
use Rattle.yds_energy.proofs.Members.{group_once}
use Rattle.yds_energy.proofs.FullStretches.{planned_once, plan_fits}

-- the slots of a level take as long as the level, at a scale
abbrev pub TakesLong : List WholeSlot → ℕ → Level → Type 0
TakesLong slots scale level = group (λ slot. slot.to - slot.from) level.members slots ≡ scale * level.length

-- so they do in a plan
pub levels_long : (jobs : List Job) (planned : List WrittenSlot) (levels : List Level) (scale : ℕ) → IsPlan jobs planned levels → IsScale scale planned →
    All (TakesLong (slots_at scale planned) scale) levels
levels_long jobs planned levels scale plan is k d within =
    let level = get_or levels k d in
    let fits = plan_fits jobs planned levels scale plan is k d within in
    level_time jobs scale (slots_at scale planned) (plan.proper.feasible.holds scale is).served level fits ∙ ap (λ n. scale * n) (sym fits.long)

-- and all of them together
all_long : (scale : ℕ) (slots : List WholeSlot) (levels : List Level) → All (TakesLong slots scale) levels →
    group (λ slot. slot.to - slot.from) (all_members levels) slots ≡ scale * sum_by (λ level. level.length) levels
all_long scale slots [] long = omega (arith, group-nil (λ slot. slot.to - slot.from) slots)
all_long scale slots (level ∷ levels) long =
    simp sum_by-cons (omega (
      arith,
      group-append (λ slot. slot.to - slot.from) level.members (all_members levels) slots,
      long 0 level (omega arith),
      all_long scale slots levels (All-tail (TakesLong slots scale) level levels long),
    ))

-- so a plan's slots take as long as its levels
pub plan_busy : (jobs : List Job) (planned : List WrittenSlot) (levels : List Level) (scale : ℕ) → IsPlan jobs planned levels → IsScale scale planned →
    busy (slots_at scale planned) ≡ scale * sum_by (λ level. level.length) levels
plan_busy jobs planned levels scale plan is =
    let slots = slots_at scale planned in
    sym (group_once (λ slot. slot.to - slot.from) (all_members levels) slots (planned_once jobs planned levels scale plan is))
    ∙ all_long scale slots levels (levels_long jobs planned levels scale plan is)

-- the law: and that is at most the horizon
pub levels_fit_the_horizon : LevelsFitTheHorizon
levels_fit_the_horizon jobs slots levels plan =
    let scale = scale_exists slots plan.proper.feasible.solid in
    let less : scale.0 * sum_by (λ level. level.length) levels ≤ scale.0 * horizon jobs = omega (
      arith,
      plan_busy jobs slots levels scale.0 plan scale.1,
      busy_and_idle jobs scale.0 (slots_at scale.0 slots) (plan.proper.feasible.holds scale.0 scale.1),
    ) in
    le_of_mul-le-mul_left {k = scale.0} less scale.1.positive
