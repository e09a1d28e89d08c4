-- That jobs have a plan, tried on one job, and on one that has no time.
use Rattle.yds_model.proofs.Common.{sym, ◌<◌, length, ◌≡◌, ℕ, suc, ◌*◌, ◌==◌, List, [], ◌∷◌, refl, arith, ap, inl, inr, if◌then◌else◌, All, All-cons, All-nil, cases_eq, ne_eqb, sum_by-cons, Job, IsJob, job_at, WrittenSlot, WholeSlot, slots_at, work_given, RunFrom, IsInWindow, Level, IsPlan, Global, get_or, get_or-map, get_or_default, length-map, subst, ◌∙◌, filter, no_job, numbers_of, All-filter, Contains, Contains-permutation, contains_filter}
use Rattle.model_lemmas.proofs.Scale.{scale_exists}
use Rattle.yds_intensity.specs.DeadlineOrder.{IsDeadlineOrder}
use Rattle.yds_intensity.proofs.Sweeps.{number_known}
use Rattle.yds_critical.specs.declared.interval.Interval.{Interval}
use Rattle.yds_critical.specs.Critical.{IsCritical}
use Rattle.yds_textbook.specs.declared.stage.Stage.{Stage}
use Rattle.yds_textbook.specs.Stages.{AreStages}
use Rattle.yds_textbook.specs.Theorem.{AreOfTextbook}
use Rattle.yds_textbook.specs.Waiting.{contracted_jobs, job_has_work}
use Rattle.yds_textbook.proofs.Densest.{as_many, waits_at}
use Rattle.yds_plan_exists.proofs.Exists.{stages_exist, plans_exist}

-- one job, from 0 to 2, of work 2
abbrev jobs : List Job
jobs = record { release = 0; deadline = 2; work = 2 } ∷ []

-- within the limits,
is_job : All IsJob jobs
is_job = All-cons IsJob (record { release = 0; deadline = 2; work = 2 }) [] (record { has_window = omega arith; time_in_range = omega arith; work_in_range = omega arith }) (All-nil IsJob)

-- has stages,
one_stage : Global → (slots : List WrittenSlot) × (levels : List Level) × AreOfTextbook jobs slots levels
one_stage alloc = stages_exist alloc jobs is_job (omega arith)

-- and a plan,
one_plan : Global → (slots : List WrittenSlot) × (levels : List Level) × IsPlan jobs slots levels
one_plan alloc = plans_exist alloc jobs is_job (omega arith)

-- and so has an empty list.
no_jobs : Global → (slots : List WrittenSlot) × (levels : List Level) × IsPlan [] slots levels
no_jobs alloc = plans_exist alloc [] (All-nil IsJob) (omega arith)

-- A job with work that is due as it is released has none: no slot of it takes time.
abbrev hurried : List Job
hurried = record { release = 1; deadline = 1; work = 1 } ∷ []

-- slots that run so give it nothing
nothing_given : (scale start : ℕ) (slots : List WholeSlot) → RunFrom start slots → All (IsInWindow hurried scale) slots → work_given slots 0 ≡ 0
nothing_given scale start [] run windows = refl
nothing_given scale start (slot ∷ slots) run windows =
    let window = windows 0 slot (omega arith) in
    elim (cases_eq 0 slot.job) [
      | inl same ↦ absurd (omega (
        arith,
        run.1,
        window.released,
        window.due,
        ap (λ n. (job_at hurried n).release * scale) same,
        ap (λ n. (job_at hurried n).deadline * scale) same,
      ))
      | inr other ↦ omega (
        arith,
        sum_by-cons (λ (one : WholeSlot). if 0 == one.job then one.work else 0) slot slots,
        ap {B = ℕ} (λ b. if b then slot.work else 0) (ne_eqb 0 slot.job other),
        nothing_given scale slot.to slots run.2 (λ k d within. windows (suc k) d (omega (arith, within))),
      )
    ]

-- and it wants work
no_plan : (slots : List WrittenSlot) (levels : List Level) → IsPlan hurried slots levels → ⊥
no_plan slots levels plan =
    let scale = scale_exists slots plan.proper.feasible.solid in
    let feasible = plan.proper.feasible.holds scale.0 scale.1 in
    absurd (omega (arith, scale.1.positive, feasible.served 0 (omega arith), nothing_given scale.0 0 (slots_at scale.0 slots) feasible.one_at_a_time feasible.in_windows))

-- Nor has it stages: it waits, and there is no interval from its release to its deadline.
module _ (order : List ℕ) (ordered : IsDeadlineOrder hurried order) where
  abbrev waiting : List ℕ
  waiting = filter (job_has_work hurried) order

  -- the waiting jobs are just this one
  just_one : (k : ℕ) → k < length waiting → get_or waiting k 0 ≡ 0
  just_one k within =
      let known = All-filter (job_has_work hurried) (λ number. number < 1) order
      (λ j d inside. subst (λ n. n < 1) (get_or_default order j 0 d inside) (number_known hurried order j ordered inside)) k 0 within in
      omega (arith, known)

  -- so there is no critical interval
  no_critical : (interval : Interval) → IsCritical (contracted_jobs hurried [] waiting) interval → ⊥
  no_critical interval critical =
      let all = contracted_jobs hurried [] waiting in
      let candidate = critical.candidate in
      let (i, early, first) = candidate.is_release in
      let (j, late, last) = candidate.is_deadline in
      let one : i < length waiting = omega (arith, early, length-map all (λ (job : Job). job.release), as_many hurried [] waiting) in
      let other : j < length waiting = omega (arith, late, length-map all (λ (job : Job). job.deadline), as_many hurried [] waiting) in
      let start : (job_at all i).release ≡ interval.start =
      sym (get_or-map (λ (job : Job). job.release) all i no_job interval.start (omega (arith, one, as_many hurried [] waiting))) ∙ first in
      let end : (job_at all j).deadline ≡ interval.end =
      sym (get_or-map (λ (job : Job). job.deadline) all j no_job interval.end (omega (arith, other, as_many hurried [] waiting))) ∙ last in
      absurd (omega (
        arith,
        candidate.forward,
        start,
        end,
        ap (λ (job : Job). job.release) (waits_at hurried [] waiting i one),
        ap (λ (job : Job). job.deadline) (waits_at hurried [] waiting j other),
        ap (λ n. (job_at hurried n).release) (just_one i one),
        ap (λ n. (job_at hurried n).deadline) (just_one j other),
      ))

no_stages : (slots : List WrittenSlot) (levels : List Level) → AreOfTextbook hurried slots levels → ⊥
no_stages slots levels by = no_list by.stages by.are_stages
  where
    -- it waits
    it_waits : Contains (filter (job_has_work hurried) by.order) 0
    it_waits = contains_filter (job_has_work hurried) by.order 0 refl (Contains-permutation (numbers_of hurried) by.order 0 by.ordered.once (0, omega arith, refl))

    -- neither no stage nor some
    no_list : (stages : List Stage) → AreStages hurried [] (filter (job_has_work hurried) by.order) stages → ⊥
    no_list [] none = absurd (omega (arith, it_waits.1, ap (λ (numbers : List ℕ). length numbers) none))
    no_list (stage ∷ stages) (interval, changed, critical, is, removes, rest) = no_critical by.order by.ordered interval critical
