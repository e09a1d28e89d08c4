-- What plans are: least, and of the same levels as each other plan of the jobs.
use Rattle.yds_model.proofs.Common.{◌≡◌, ℕ, ◌*◌, ◌≤◌, List, [], ◌∷◌, ◌++◌, refl, ap, arith, All, All-nil, All-cons, All-append, All-from_get_or, eq_of_mul-eq-mul_left, Job, job_at, WrittenSlot, WholeSlot, IsScale, IsSolid, slot_at_scale, slots_at, excess, Level, no_level, EarliestAfter, IsPlan}
use Rattle.model_lemmas.proofs.Scale.{scale_exists}
use Rattle.fraction_lemmas.proofs.Fractions.{factors}
use Rattle.yds_laws.specs.Laws.{PlansAreLeast, PlansHaveTheSameLevels, PlansServeWork}
use Rattle.yds_laws.proofs.Bound.{explained_is_least, scale_left, scale_right}
use Rattle.yds_laws.proofs.Explained.{proper_explains}
use Rattle.yds_laws.proofs.Curve.{curve, AreFalling, are_falling, SumsUp, curve_above, DoTheSame, same_levels}

-- a plan's certificate is proper, so it explains the schedule, which is least
pub plans_are_least : PlansAreLeast
plans_are_least jobs slots levels plan =
    let explains = proper_explains jobs slots levels plan.proper in
    (explained_is_least jobs slots levels explains, explains)

-- the speeds of a plan's levels fall
pub plan_falls : (jobs : List Job) (slots : List WrittenSlot) (levels : List Level) → IsPlan jobs slots levels → AreFalling levels
plan_falls jobs slots levels plan = are_falling levels plan.proper.well_formed.positive plan.falling

-- each of its levels has its members' work and its pieces' length
pub plan_sums_up : (jobs : List Job) (slots : List WrittenSlot) (levels : List Level) → IsPlan jobs slots levels → All (SumsUp jobs) levels
plan_sums_up jobs slots levels plan =
    All-from_get_or (SumsUp jobs) levels no_level
    (λ i within. record { work = (plan.proper.sums i within).work; long = (plan.proper.sums i within).length })

-- a plan's excess is what its levels do above the speed
pub plan_excess : (jobs : List Job) (slots : List WrittenSlot) (levels : List Level) (scale p q : ℕ) → IsPlan jobs slots levels → IsScale scale slots →
    1 ≤ q → excess p q (slots_at scale slots) ≡ scale * curve p q levels
plan_excess jobs slots levels scale p q plan is some =
    omega (
      arith,
      (((proper_explains jobs slots levels plan.proper).holds scale is).forced p q some).exact,
      ap (λ n. scale * n) (curve_above jobs p q levels (plan_falls jobs slots levels plan) (plan_sums_up jobs slots levels plan)),
    )

-- two plans are least, so their levels do the same
plans_do_the_same : (jobs : List Job) (slots others : List WrittenSlot) (levels others_levels : List Level) (scale : ℕ) →
    IsPlan jobs slots levels → IsPlan jobs others others_levels → IsScale scale (slots ++ others) → DoTheSame levels others_levels
plans_do_the_same jobs slots others levels others_levels scale plan other is p q some =
    let left = scale_left scale slots others is in
    let right = scale_right scale slots others is in
    let one = (plans_are_least jobs slots levels plan).0.holds scale left in
    let two = (plans_are_least jobs others others_levels other).0.holds scale right in
    eq_of_mul-eq-mul_left scale is.positive (curve p q levels) (curve p q others_levels)
    (omega (
      arith,
      plan_excess jobs slots levels scale p q plan left some,
      plan_excess jobs others others_levels scale p q other right some,
      one.least p q some (slots_at scale others) two.feasible,
      two.least p q some (slots_at scale slots) one.feasible,
    ))

-- at a scale of both schedules
pub plans_have_the_same_levels : PlansHaveTheSameLevels
plans_have_the_same_levels jobs slots others levels others_levels plan other =
    let scale = scale_exists (slots ++ others) (All-append IsSolid slots others plan.proper.feasible.solid other.proper.feasible.solid) in
    same_levels levels others_levels (plan_falls jobs slots levels plan) (plan_falls jobs others others_levels other)
    (plans_do_the_same jobs slots others levels others_levels scale.0 plan other scale.1)

-- what is served earliest deadline first is a job with pending work, so with work
due_has_work : (jobs : List Job) (scale : ℕ) (before : List WholeSlot) (slots : List WrittenSlot) → EarliestAfter jobs scale before (slots_at scale slots) →
    All (λ slot. 1 ≤ (job_at jobs slot.job).work) slots
due_has_work jobs scale before [] due = All-nil (λ slot. 1 ≤ (job_at jobs slot.job).work)
due_has_work jobs scale before (slot ∷ slots) due =
    All-cons (λ slot. 1 ≤ (job_at jobs slot.job).work) slot slots
    (factors (job_at jobs slot.job).work scale ((job_at jobs slot.job).work * scale) refl (omega (arith, due.0.may_run.pending))).0
    (due_has_work jobs scale (before ++ slot_at_scale scale slot ∷ []) slots due.1)

-- and a plan is served so, at a scale that there is
pub plans_serve_work : PlansServeWork
plans_serve_work jobs slots levels plan =
    let scale = scale_exists slots plan.proper.feasible.solid in
    due_has_work jobs scale.0 [] slots (plan.served scale.0 scale.1).earliest_first
