-- How much work of periodic tasks is confined to pieces of time, where the jobs of each task follow one another without a gap.
use Rattle.yds_model.proofs.Common.{◌≡◌, ℕ, zero, suc, ◌+◌, ◌-◌, ◌*◌, ◌/◌, ◌%◌, ◌<◌, ◌≤◌, ◌==◌, true, List, [], ◌∷◌, ◌++◌, length, get_or, map, refl, ap, ◌∙◌, subst, append_assoc, arith, if◌then◌else◌, All, sum_by, flat_map, list_all, range_with_len, div-add-mod, mul-div_cancel, mul-le-mul_left, get_or-append_seam, and_parts, le-ltb, length-append, length_push, length-flat_map, All-nil, All-cons, All-head, All-tail, sum_by-cons, sum_by-append, length-range_with_len, length-map-range_with_len, count as count_in, AreDifferent, Job, no_job, job_at, work_of, WholeSlot, work_given, RunFrom, IsInWindow, Piece, IsConfined, total_length, Task, TaskSet, nth_job, count_of_jobs, numbers_of_jobs, fills_horizon, jobs_of_tasks, count_of_all, sum_by_same, sum_by-mul, part_own, part_other}
use Rattle.model_lemmas.proofs.Time.{time_within}
use Rattle.yds_laws.proofs.Group.{group, work_served}

-- # The jobs of one task

abbrev pub jobs_of_task : ℕ → Task → List Job
jobs_of_task horizon task = map (nth_job task) (numbers_of_jobs horizon task)

abbrev pub jobs_until : ℕ → List Task → List Job
jobs_until horizon tasks = flat_map (jobs_of_task horizon) tasks

-- the works of jobs of one task
works_of_numbers : (task : Task) (numbers : List ℕ) → sum_by (λ job. job.work) (map (nth_job task) numbers) ≡ length numbers * task.work
works_of_numbers task [] = omega arith
works_of_numbers task (k ∷ numbers) =
    omega (arith, sum_by-cons (λ (job : Job). job.work) (nth_job task k) (map (nth_job task) numbers), works_of_numbers task numbers)

pub works_of_task : (horizon : ℕ) (task : Task) → sum_by (λ job. job.work) (jobs_of_task horizon task) ≡ count_of_jobs horizon task * task.work
works_of_task horizon task =
    works_of_numbers task (numbers_of_jobs horizon task) ∙ ap (λ n. n * task.work) (length-range_with_len 0 (count_of_jobs horizon task))

-- there are as many jobs as the tasks have together
pub jobs_counted : (set : TaskSet) → length (jobs_of_tasks set) ≡ count_of_all set
jobs_counted set = grind (arith, length-flat_map, length-map-range_with_len, sum_by_same)

-- what it means that a task fills the horizon
record Fills (horizon : ℕ) (task : Task) : Type 0 where
  no_offset : task.offset ≡ 0
  due_at_period : task.deadline ≡ task.period
  divides : horizon % task.period ≡ 0

fills : (horizon : ℕ) (task : Task) → fills_horizon horizon task ≡ true → Fills horizon task
fills horizon task is = grind arith

-- where n periods are the horizon, the quotient of what is left after one of them tells n
count_by_periods : (horizon period n : ℕ) → 1 ≤ period → period * n ≡ horizon → 1 ≤ horizon → (period ≤ horizon) × ((horizon - period) / period + 1 ≡ n)
count_by_periods horizon period zero some whole positive = absurd (omega arith)
count_by_periods horizon period (suc n) some whole positive =
    let rest : horizon - period ≡ n * period = omega arith in
    let quotient : (horizon - period) / period ≡ n = ap (λ k. k / period) rest ∙ mul-div_cancel n some in
    (omega arith, omega (arith, quotient))

-- a task that fills the horizon has a job for each period
pub count_fills : (horizon : ℕ) (task : Task) → fills_horizon horizon task ≡ true → 1 ≤ task.period → 1 ≤ horizon → task.period * count_of_jobs horizon task ≡ horizon
count_fills horizon task is some positive =
    let fill = fills horizon task is in
    let whole : task.period * (horizon / task.period) ≡ horizon = omega (arith, div-add-mod horizon task.period, fill.divides) in
    let periods = count_by_periods horizon task.period (horizon / task.period) some whole positive in
    let first : task.offset + task.deadline ≡ task.period = omega (arith, fill.no_offset, fill.due_at_period) in
    let counted : count_of_jobs horizon task ≡ horizon / task.period =
    rw (first, le-ltb horizon task.period periods.0) periods.1 in
    ap (λ n. task.period * n) counted ∙ whole

-- # Each job over its window

-- slots of whole jobs, numbered from `base` on, each over its job's window
abbrev windows_from : ℕ → List Job → List WholeSlot
windows_from base [] = []
windows_from base (job ∷ jobs) = record { job = base; from = job.release; to = job.deadline; work = job.work } ∷ windows_from (base + 1) jobs

windows-append : (base : ℕ) (xs ys : List Job) → windows_from base (xs ++ ys) ≡ windows_from base xs ++ windows_from (base + length xs) ys
windows-append base [] ys = let same : base ≡ base + 0 = omega arith in ap (λ n. windows_from n ys) same
windows-append base (x ∷ xs) ys =
    let slot : WholeSlot = record { job = base; from = x.release; to = x.deadline; work = x.work } in
    let same : base + 1 + length xs ≡ base + length (x ∷ xs) = omega arith in
    ap (λ slots. slot ∷ slots) (windows-append (base + 1) xs ys ∙ ap (λ n. windows_from (base + 1) xs ++ windows_from n ys) same)

-- each lies in the window of its job, wherever these jobs stand among others
windows_fit : (before jobs after : List Job) → All (IsInWindow (before ++ (jobs ++ after)) 1) (windows_from (length before) jobs)
windows_fit before [] after = All-nil (IsInWindow (before ++ after) 1)
windows_fit before (job ∷ jobs) after =
    let all : List Job = before ++ (job ∷ (jobs ++ after)) in
    let here : job_at all (length before) ≡ job = get_or-append_seam before job (jobs ++ after) no_job in
    let first : WholeSlot = record { job = length before; from = job.release; to = job.deadline; work = job.work } in
    let next : length (before ++ job ∷ []) ≡ length before + 1 = omega (arith, length_push before job) in
    All-cons (IsInWindow all 1) first (windows_from (length before + 1) jobs)
    (record {
      known = omega (arith, length-append before (job ∷ (jobs ++ after)));
      released = omega (arith, ap (λ (j : Job). j.release) here);
      due = omega (arith, ap (λ (j : Job). j.deadline) here);
    })
    (subst (λ jobs_of. All (IsInWindow jobs_of 1) (windows_from (length before + 1) jobs)) (append_assoc before (job ∷ []) (jobs ++ after))
    (subst (λ n. All (IsInWindow ((before ++ job ∷ []) ++ (jobs ++ after)) 1) (windows_from n jobs)) next (windows_fit (before ++ job ∷ []) jobs after)))

-- a number before them is that of none
given_before : (base number : ℕ) (jobs : List Job) → number < base → work_given (windows_from base jobs) number ≡ 0
given_before base number [] before = refl
given_before base number (job ∷ jobs) before =
    let slot : WholeSlot = record { job = base; from = job.release; to = job.deadline; work = job.work } in
    omega (
      arith,
      sum_by-cons (λ (other : WholeSlot). if number == other.job then other.work else 0) slot (windows_from (base + 1) jobs),
      part_other number base job.work (λ same. omega (arith, same)),
      given_before (base + 1) number jobs (omega arith),
    )

-- and each job gets its work
given_at : (base number k : ℕ) (jobs : List Job) → number ≡ base + k → k < length jobs → work_given (windows_from base jobs) number ≡ (job_at jobs k).work
given_at base number k [] is within = absurd (omega (arith, within))
given_at base number zero (job ∷ jobs) is within =
    let slot : WholeSlot = record { job = base; from = job.release; to = job.deadline; work = job.work } in
    omega (
      arith,
      sum_by-cons (λ (other : WholeSlot). if number == other.job then other.work else 0) slot (windows_from (base + 1) jobs),
      part_own number base job.work (omega arith),
      given_before (base + 1) number jobs (omega arith),
    )
given_at base number (suc k) (job ∷ jobs) is within =
    let slot : WholeSlot = record { job = base; from = job.release; to = job.deadline; work = job.work } in
    omega (
      arith,
      sum_by-cons (λ (other : WholeSlot). if number == other.job then other.work else 0) slot (windows_from (base + 1) jobs),
      part_other number base job.work (λ same. omega (arith, same)),
      given_at (base + 1) number k jobs (omega arith) (omega arith),
    )

-- the slots of a task's jobs run one after another
runs_on : (task : Task) (base start a n : ℕ) → task.deadline ≡ task.period → 1 ≤ task.period → start ≤ task.offset + a * task.period →
    RunFrom start (windows_from base (map (nth_job task) (range_with_len a n)))
runs_on task base start a zero due some begins = tt
runs_on task base start a (suc n) due some begins =
    (begins, omega (arith, due), runs_on task (base + 1) (task.offset + a * task.period + task.deadline) (a + 1) n due some (omega (arith, due)))

-- and all at one speed
even : (task : Task) (base : ℕ) (numbers : List ℕ) → task.deadline ≡ task.period →
    All (λ slot. task.period * slot.work ≡ task.work * (slot.to - slot.from)) (windows_from base (map (nth_job task) numbers))
even task base [] due = All-nil (λ slot. task.period * slot.work ≡ task.work * (slot.to - slot.from))
even task base (k ∷ numbers) due =
    let job = nth_job task k in
    let long : (task.offset + k * task.period + task.deadline) - (task.offset + k * task.period) ≡ task.period = omega (arith, due) in
    All-cons (λ slot. task.period * slot.work ≡ task.work * (slot.to - slot.from)) (record { job = base; from = job.release; to = job.deadline; work = job.work })
    (windows_from (base + 1) (map (nth_job task) numbers)) (omega (arith, ap (λ n. task.work * n) long)) (even task (base + 1) numbers due)

-- # The confined work

-- Different jobs that are confined to pieces, of `all` jobs.
module _ (all : List Job) (members : List ℕ) (pieces : List Piece) (different : AreDifferent members) (confined : All (λ number. IsConfined (job_at all number) pieces) members) where
  -- a member's slots, one for each time that it is counted
  abbrev often : (WholeSlot → ℕ) → List WholeSlot → ℕ
  often f slots = group f members slots

  -- of one task, weighed by the horizon, at most as much as the pieces would take at the task's speed
  bound_of_task : (horizon : ℕ) (task : Task) (before after : List Job) → before ++ (jobs_of_task horizon task ++ after) ≡ all → fills_horizon horizon task ≡ true → 1 ≤ task.period → 1 ≤ horizon →
      horizon * often (λ slot. slot.work) (windows_from (length before) (jobs_of_task horizon task)) ≤ total_length pieces * sum_by (λ job. job.work) (jobs_of_task horizon task)
  bound_of_task horizon task before after is filled some positive =
      let own : List Job = jobs_of_task horizon task in
      let slots : List WholeSlot = windows_from (length before) own in
      let fill = fills horizon task filled in
      let count : ℕ = count_of_jobs horizon task in
      let work : ℕ = often (λ slot. slot.work) slots in
      let time : ℕ = often (λ slot. slot.to - slot.from) slots in
      let within : time ≤ 1 * total_length pieces =
      time_within all 1 members pieces slots (omega arith) different confined (runs_on task (length before) 0 0 count fill.due_at_period some (omega arith))
      (subst (λ jobs. All (IsInWindow jobs 1) slots) is (windows_fit before own after)) in
      let speed : task.period * work ≡ task.work * time =
      omega (
        arith,
        sum_by_same (λ slot. task.period * (count_in slot.job members * slot.work)) (λ slot. task.work * (count_in slot.job members * (slot.to - slot.from))) slots
            (λ k d inside. omega (arith, ap (λ n. count_in (get_or slots k d).job members * n) (even task (length before) (numbers_of_jobs horizon task) fill.due_at_period k d inside))),
        sum_by-mul task.period (λ (slot : WholeSlot). count_in slot.job members * slot.work) slots,
        sum_by-mul task.work (λ (slot : WholeSlot). count_in slot.job members * (slot.to - slot.from)) slots,
      ) in
      omega (
        arith,
        ap (λ n. n * work) (count_fills horizon task filled some positive),
        ap (λ n. count * n) speed,
        mul-le-mul_left (count * task.work) within,
        ap (λ n. total_length pieces * n) (works_of_task horizon task),
      )

  bound_of_tasks : (horizon : ℕ) (tasks : List Task) (before : List Job) → before ++ jobs_until horizon tasks ≡ all → list_all (fills_horizon horizon) tasks ≡ true →
      All (λ task. 1 ≤ task.period) tasks → 1 ≤ horizon →
      horizon * often (λ slot. slot.work) (windows_from (length before) (jobs_until horizon tasks)) ≤ total_length pieces * sum_by (λ job. job.work) (jobs_until horizon tasks)
  bound_of_tasks horizon [] before is filled some positive = omega arith
  bound_of_tasks horizon (task ∷ tasks) before is filled some positive =
      let own : List Job = jobs_of_task horizon task in
      let rest : List Job = jobs_until horizon tasks in
      let parts = and_parts (fills_horizon horizon task) (list_all (fills_horizon horizon) tasks) filled in
      let first = bound_of_task horizon task before rest is parts.0 (All-head (λ (t : Task). 1 ≤ t.period) task tasks some) positive in
      let others = bound_of_tasks horizon tasks (before ++ own) (append_assoc before own rest ∙ is) parts.1 (All-tail (λ (t : Task). 1 ≤ t.period) task tasks some) positive in
      let slots = windows-append (length before) own rest in
      let long : length (before ++ own) ≡ length before + length own = length-append before own in
      omega (
        arith,
        ap (λ n. horizon * n) (ap (often (λ slot. slot.work)) slots ∙ sum_by-append (λ (slot : WholeSlot). count_in slot.job members * slot.work) (windows_from (length before) own) (windows_from (length before + length own) rest)),
        ap (λ n. horizon * often (λ slot. slot.work) (windows_from n rest)) long,
        ap (λ n. total_length pieces * n) (sum_by-append (λ (job : Job). job.work) own rest),
        first,
        others,
      )

-- Different jobs of tasks that fill the horizon, confined to pieces, have at most the pieces' share of all work.
pub confined_work : (horizon : ℕ) (tasks : List Task) (members : List ℕ) (pieces : List Piece) → list_all (fills_horizon horizon) tasks ≡ true → All (λ task. 1 ≤ task.period) tasks → 1 ≤ horizon →
    AreDifferent members → All (λ number. number < length (jobs_until horizon tasks)) members →
    All (λ number. IsConfined (job_at (jobs_until horizon tasks) number) pieces) members →
    horizon * work_of (jobs_until horizon tasks) members ≤ total_length pieces * sum_by (λ job. job.work) (jobs_until horizon tasks)
confined_work horizon tasks members pieces filled some positive different known confined =
    let jobs : List Job = jobs_until horizon tasks in
    let served = work_served jobs 1 (windows_from 0 jobs) members (λ number within. omega (arith, given_at 0 number number jobs (omega arith) within)) known in
    omega (
      arith,
      ap (λ n. horizon * n) served,
      bound_of_tasks jobs members pieces different confined horizon tasks [] refl filled some positive,
    )
