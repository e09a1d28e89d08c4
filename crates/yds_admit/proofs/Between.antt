-- The work of jobs whose windows lie in an interval, job by job, and where it first is too much.
use Rattle.yds_model.proofs.Common.{◌≡◌, ℕ, ◌+◌, ◌-◌, ◌*◌, ◌<◌, ◌≤◌, List, [], ◌∷◌, ◌++◌, length, get_or, take, drop, ◌∙◌, sym, arith, inl, inr, ap, All, Any, sum_by, IsNonDecreasingBy, cases_lt, cases_eq, get_or-take, get_or-drop, get_or_default, get_or_append_left, get_or_push, length_push, length-take-le, length-drop, sum_by_more, sum_by_push, sum_by-take-drop, mul-le-mul_left, Job, IsJob, no_job, job_at, sum_by_same, sum_by_zero, work_within, released_work}
use Rattle.model_lemmas.proofs.Confined.{part_within, part_inside, part_early, part_late, part_released, is_released, not_released}
use Rattle.base.specs.declared.limits.TheConstants.{MAX_WORK}
use Rattle.yds_admit.specs.Interval.{HasRoomFrom, IsFirstFrom}

-- # The walk by rising deadlines

-- The first i jobs and one more are counted. Nothing that is due at `to` or before is left out, and no interval from `from` that ends
-- before `to` has too much work.
pub record Counted (top : ℕ) (jobs : List Job) (row : Job) (from work to i : ℕ) : Type 0 where
  pub within : i ≤ length jobs
  pub sum : work ≡ released_work (take i jobs) from + row.work
  pub few : work ≤ (i + 1) * MAX_WORK
  pub is_deadline : Any (λ (job : Job). job.deadline ≡ to) (jobs ++ row ∷ [])
  pub own : row.deadline ≤ to
  pub due : (k : ℕ) → k < i → (job_at jobs k).deadline ≤ to
  pub later : (k : ℕ) → i ≤ k → k < length jobs → to ≤ (job_at jobs k).deadline
  pub room : (other : ℕ) → from < other → other < to → work_within (jobs ++ row ∷ []) from other ≤ top * (other - from)

-- the work of the first jobs, all of which are due by a time
front_work : (jobs : List Job) (from to i : ℕ) → i ≤ length jobs → ((k : ℕ) → k < i → (job_at jobs k).deadline ≤ to) →
    sum_by (part_within from to) (take i jobs) ≡ released_work (take i jobs) from
front_work jobs from to i within due = sum_by_same (part_within from to) (part_released from) (take i jobs)
    (λ k d below.
    let short : k < i = omega (arith, below, length-take-le i jobs within) in
    let soon : (get_or (take i jobs) k d).deadline ≤ to = omega (
      arith,
      due k short,
      ap (λ (job : Job). job.deadline) (get_or-take i jobs k d short),
      ap (λ (job : Job). job.deadline) (get_or_default jobs k d no_job (omega (arith, short, within))),
    ) in
    elim (cases_lt (get_or (take i jobs) k d).release from) [
      | inl less ↦ part_early from to (get_or (take i jobs) k d) less ∙ sym (not_released from (get_or (take i jobs) k d) less)
      | inr first ↦ part_inside from to (get_or (take i jobs) k d) first soon ∙ sym (is_released from (get_or (take i jobs) k d) first)
    ])

-- jobs that are due after a time have no work in an interval that ends by then
rest_work : (jobs : List Job) (from to i : ℕ) → ((k : ℕ) → i ≤ k → k < length jobs → to < (job_at jobs k).deadline) → sum_by (part_within from to) (drop i jobs) ≡ 0
rest_work jobs from to i late = sum_by_zero (part_within from to) (drop i jobs)
    (λ k d below.
    let there : i + k < length jobs = omega (arith, below, length-drop i jobs) in
    part_late from to (get_or (drop i jobs) k d) (omega (
      arith,
      late (i + k) (omega arith) there,
      ap (λ (job : Job). job.deadline) (get_or-drop i jobs k d),
      ap (λ (job : Job). job.deadline) (get_or_default jobs (i + k) d no_job there),
    )))

-- nothing of jobs that are due before a time is released then or later
pub none_released : (jobs : List Job) (from i : ℕ) → i ≤ length jobs → All IsJob jobs → ((k : ℕ) → k < i → (job_at jobs k).deadline < from) →
    released_work (take i jobs) from ≡ 0
none_released jobs from i within are early = sum_by_zero (part_released from) (take i jobs)
    (λ k d below.
    let short : k < i = omega (arith, below, length-take-le i jobs within) in
    not_released from (get_or (take i jobs) k d) (omega (
      arith,
      early k short,
      (are k no_job (omega (arith, short, within))).has_window,
      ap (λ (job : Job). job.release) (get_or-take i jobs k d short),
      ap (λ (job : Job). job.release) (get_or_default jobs k d no_job (omega (arith, short, within))),
    )))

-- one job more
pub more_released : (jobs : List Job) (from i : ℕ) → i < length jobs → released_work (take (i + 1) jobs) from ≡ released_work (take i jobs) from + part_released from (job_at jobs i)
more_released jobs from i within = sum_by_more (part_released from) jobs i no_job within

module _ (top : ℕ) (jobs : List Job) (row : Job) (from : ℕ) (until : from ≤ row.release) where
  -- where those due before the one more are counted
  pub begun : (own released to place : ℕ) → own ≡ row.work → to ≡ row.deadline → place ≤ length jobs → released ≡ released_work (take place jobs) from →
      released ≤ place * MAX_WORK → own ≤ MAX_WORK → ((k : ℕ) → k < place → (job_at jobs k).deadline ≤ to) →
      ((k : ℕ) → place ≤ k → k < length jobs → to ≤ (job_at jobs k).deadline) → HasRoomFrom top jobs from → Counted top jobs row from (own + released) to place
  begun own released to place own_is to_is within is few light early late alone = grind (arith, get_or_push, length_push, part_late, part_within, sum_by_push)

  module _ (work to i : ℕ) (counted : Counted top jobs row from work to i) where
    -- the work in an interval that ends before the others are due
    exact : (other : ℕ) → to ≤ other → ((k : ℕ) → i ≤ k → k < length jobs → other < (job_at jobs k).deadline) → work_within (jobs ++ row ∷ []) from other ≡ work
    exact other most late = omega (
      arith,
      sum_by_push (part_within from other) jobs row,
      sum_by-take-drop (part_within from other) jobs i,
      front_work jobs from other i counted.within (λ k less. omega (arith, counted.due k less, most)),
      rest_work jobs from other i late,
      part_inside from other row until (omega (arith, counted.own, most)),
      counted.sum,
    )

    -- such an interval has room if the one to `to` has
    fits : (other : ℕ) → work ≤ top * (to - from) → to ≤ other → ((k : ℕ) → i ≤ k → k < length jobs → other < (job_at jobs k).deadline) →
        work_within (jobs ++ row ∷ []) from other ≤ top * (other - from)
    fits other room most late = grind (arith, exact, mul-le-mul_left)

    -- the next deadline, where there was room up to this one
    pub moved : IsNonDecreasingBy (λ (job : Job). job.deadline) jobs → i < length jobs → to < (job_at jobs i).deadline → work ≤ top * (to - from) →
        Counted top jobs row from work (job_at jobs i).deadline i
    moved rising below more room = grind (arith, cases_lt, fits, get_or_append_left, get_or_default, length_push)

    -- one job more that is due by then
    pub added : i < length jobs → (job_at jobs i).deadline ≤ to → (more : ℕ) → more ≡ part_released from (job_at jobs i) → more ≤ MAX_WORK →
        Counted top jobs row from (work + more) to (i + 1)
    added below soon more is few = grind (arith, cases_eq, more_released)

    -- the first interval without room
    pub first_from : from < row.deadline → top * (to - from) < work → ((k : ℕ) → i ≤ k → k < length jobs → to < (job_at jobs k).deadline) →
        IsFirstFrom top (jobs ++ row ∷ []) from from to work
    first_from ahead much late = grind (arith, exact)

    -- there is none
    pub none_found : length jobs ≤ i → work ≤ top * (to - from) → HasRoomFrom top (jobs ++ row ∷ []) from
    none_found all room other ahead = grind (arith, cases_lt, fits)
