-- What all feasible schedules of the same jobs share: their work together, and the horizon that they fit in.
use Rattle.std.proofs.Common.{◌≡◌, ℕ, zero, suc, ◌+◌, ◌-◌, ◌*◌, ◌<◌, ◌≤◌, ◌==◌, min, max, List, [], ◌∷◌, length, refl, sym, arith, inl, inr, ap, ◌∙◌}
use Rattle.std.specs.Prelude.{if◌then◌else◌}
use Rattle.std.specs.List.{All, sum_by, fold}
use Rattle.std.proofs.lemmas.List.Sums.{sum_by-cons}
use Rattle.std.proofs.lemmas.List.Elements.{All-tail, All-head}
use Rattle.std.proofs.lemmas.Bool.{cases_eq}
use Rattle.base.proofs.Sums.{part_own, part_other}
use Rattle.std.proofs.Math.Nat.{mul-le-mul_right}
use Rattle.base.specs.declared.limits.TheConstants.{MAX_TIME, MAX_WORK}
use Rattle.yds_model.specs.Job.{Job, job_at, IsJob}
use Rattle.yds_model.specs.Slot.{WholeSlot, work_given}
use Rattle.yds_model.specs.Feasible.{RunFrom, IsFeasibleAt}
use Rattle.yds_model.specs.Energy.{last_deadline, first_release, horizon, busy, idle}
use Rattle.model_lemmas.proofs.Runs.{run_later}

-- # The work of all slots

-- the work that the slots give the jobs with the numbers below n
given_below : List WholeSlot → ℕ → ℕ
given_below slots zero = 0
given_below slots (suc n) = work_given slots n + given_below slots n

-- no slots give no work
given_none : (n : ℕ) → given_below [] n ≡ 0
unfolding given_below
given_none zero = refl
given_none (suc n) = omega (arith, given_none n)

-- one slot more gives a job that part
given-cons : (slot : WholeSlot) (slots : List WholeSlot) (n : ℕ) →
    work_given (slot ∷ slots) n ≡ (if n == slot.job then slot.work else 0) + work_given slots n
given-cons slot slots n = sum_by-cons (λ (other : WholeSlot). if n == other.job then other.work else 0) slot slots

-- a slot's work is given to its own job alone
before_own : (slot : WholeSlot) (slots : List WholeSlot) (n : ℕ) → n ≤ slot.job → given_below (slot ∷ slots) n ≡ given_below slots n
unfolding given_below
before_own slot slots zero within = refl
before_own slot slots (suc n) within =
    omega (arith, given-cons slot slots n, part_other n slot.job slot.work (λ same. omega arith), before_own slot slots n (omega arith))

-- and it is counted once the numbers go beyond that job's
after_own : (slot : WholeSlot) (slots : List WholeSlot) (n : ℕ) → slot.job < n → given_below (slot ∷ slots) n ≡ slot.work + given_below slots n
unfolding given_below
after_own slot slots zero within = absurd (omega arith)
after_own slot slots (suc n) within = elim (cases_eq n slot.job) [
  | inl same ↦ omega (arith, given-cons slot slots n, part_own n slot.job slot.work same, before_own slot slots n (omega arith))
  | inr other ↦
      let later : slot.job < n = omega arith in
      omega (arith, given-cons slot slots n, part_other n slot.job slot.work other, after_own slot slots n later)
]

-- so all work is given to jobs
all_given : (slots : List WholeSlot) (n : ℕ) → All (λ slot. slot.job < n) slots → sum_by (λ slot. slot.work) slots ≡ given_below slots n
all_given [] n known = sym (given_none n)
all_given (slot ∷ slots) n known =
    omega (
      arith,
      sum_by-cons (λ (other : WholeSlot). other.work) slot slots,
      after_own slot slots n (known 0 slot (omega arith)),
      all_given slots n (All-tail (λ other. other.job < n) slot slots known),
    )

-- slots that give each job the same give the same to all jobs below a number
given_same : (slots others : List WholeSlot) (n : ℕ) → ((number : ℕ) → number < n → work_given slots number ≡ work_given others number) →
    given_below slots n ≡ given_below others n
unfolding given_below
given_same slots others zero same = refl
given_same slots others (suc n) same = omega (arith, same n (omega arith), given_same slots others n (λ number within. same number (omega arith)))

-- so slots that give each job the same do the same work
pub work_by_jobs : (slots others : List WholeSlot) (n : ℕ) → All (λ slot. slot.job < n) slots → All (λ slot. slot.job < n) others →
    ((number : ℕ) → number < n → work_given slots number ≡ work_given others number) → sum_by (λ slot. slot.work) slots ≡ sum_by (λ slot. slot.work) others
work_by_jobs slots others n known other_known same = all_given slots n known ∙ given_same slots others n same ∙ sym (all_given others n other_known)

-- and all feasible schedules of the same jobs have the same work
pub same_work : (jobs : List Job) (scale : ℕ) (slots others : List WholeSlot) → IsFeasibleAt jobs scale slots → IsFeasibleAt jobs scale others →
    sum_by (λ slot. slot.work) slots ≡ sum_by (λ slot. slot.work) others
same_work jobs scale slots others feasible other_feasible =
    work_by_jobs slots others (length jobs) (λ k d within. (feasible.in_windows k d within).known) (λ k d within. (other_feasible.in_windows k d within).known)
    (λ number within. feasible.served number within ∙ sym (other_feasible.served number within))

-- # The horizon

-- a fold by the greater, or by the lesser, passes none of its numbers
pub deadlines_from : (jobs : List Job) (from : ℕ) → from ≤ fold (λ time job. max time job.deadline) from jobs
deadlines_from [] from = omega arith
deadlines_from (job ∷ jobs) from = omega (arith, deadlines_from jobs (max from job.deadline))

-- no deadline is beyond the greatest one
pub deadlines_below : (jobs : List Job) (from number : ℕ) → number < length jobs →
    (job_at jobs number).deadline ≤ fold (λ time job. max time job.deadline) from jobs
deadlines_below [] from number within = absurd (omega arith)
deadlines_below (job ∷ jobs) from zero within = omega (arith, deadlines_from jobs (max from job.deadline))
deadlines_below (job ∷ jobs) from (suc number) within = deadlines_below jobs (max from job.deadline) number (omega arith)

-- a fold by the lesser doesn't rise
pub releases_from : (jobs : List Job) (from : ℕ) → fold (λ time job. min time job.release) from jobs ≤ from
releases_from [] from = omega arith
releases_from (job ∷ jobs) from = omega (arith, releases_from jobs (min from job.release))

-- no release is before the least one
pub releases_above : (jobs : List Job) (from number : ℕ) → number < length jobs →
    fold (λ time job. min time job.release) from jobs ≤ (job_at jobs number).release
releases_above [] from number within = absurd (omega arith)
releases_above (job ∷ jobs) from zero within = omega (arith, releases_from jobs (min from job.release))
releases_above (job ∷ jobs) from (suc number) within = releases_above jobs (min from job.release) number (omega arith)

-- slots that run within a time take no longer
pub busy_within : (last start : ℕ) (slots : List WholeSlot) → start ≤ last → RunFrom start slots → All (λ slot. slot.to ≤ last) slots →
    busy slots + start ≤ last
busy_within last start [] within runs due = omega (arith, within)
busy_within last start (slot ∷ slots) within runs due =
    omega (
      arith,
      sum_by-cons (λ (other : WholeSlot). other.to - other.from) slot slots,
      runs.0,
      runs.1,
      busy_within last slot.to slots (due 0 slot (omega arith)) runs.2 (All-tail (λ other. other.to ≤ last) slot slots due),
    )

-- the time in which something runs, and the rest, are the horizon
pub busy_and_idle : (jobs : List Job) (scale : ℕ) (slots : List WholeSlot) → IsFeasibleAt jobs scale slots →
    busy slots + idle jobs scale slots ≡ scale * horizon jobs
busy_and_idle jobs scale slots feasible =
    let first : first_release jobs ≤ last_deadline jobs = releases_from jobs (last_deadline jobs) in
    let gap : first_release jobs + horizon jobs ≡ last_deadline jobs = omega (arith, first) in
    let order : first_release jobs * scale ≤ last_deadline jobs * scale = mul-le-mul_right scale first in
    omega (
      arith,
      ap (λ n. scale * n) gap,
      busy_within (last_deadline jobs * scale) (first_release jobs * scale) slots order
          (run_later 0 (first_release jobs * scale) slots feasible.one_at_a_time
          (λ k d within. omega (arith, (feasible.in_windows k d within).released, mul-le-mul_right scale (releases_above jobs (last_deadline jobs) _ (feasible.in_windows k d within).known))))
          (λ k d within. omega (arith, (feasible.in_windows k d within).due, mul-le-mul_right scale (deadlines_below jobs 0 _ (feasible.in_windows k d within).known))),
    )

-- # Jobs within their limits

-- the work of jobs together
pub works_few : (jobs : List Job) → All IsJob jobs → sum_by (λ job. job.work) jobs ≤ MAX_WORK * length jobs
works_few [] fit = omega arith
works_few (job ∷ jobs) fit =
    omega (arith, sum_by-cons (λ (job : Job). job.work) job jobs, (All-head IsJob job jobs fit).work_in_range, works_few jobs (All-tail IsJob job jobs fit))

-- the greatest of their deadlines, and of an earlier time
pub deadlines_within : (limit time : ℕ) (jobs : List Job) → time ≤ limit → All (λ job. job.deadline ≤ limit) jobs → fold (λ time job. max time job.deadline) time jobs ≤ limit
deadlines_within limit time [] within due = within
deadlines_within limit time (job ∷ jobs) within due =
    deadlines_within limit (max time job.deadline) jobs (omega (arith, within, due 0 job (omega arith))) (All-tail (λ (job : Job). job.deadline ≤ limit) job jobs due)

pub last_within : (jobs : List Job) → All IsJob jobs → last_deadline jobs ≤ MAX_TIME
last_within jobs fit = deadlines_within MAX_TIME 0 jobs (omega arith) (λ k d within. (fit k d within).time_in_range)
