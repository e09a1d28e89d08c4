-- How many jobs tasks have together, and their work, as one task more comes.
use Rattle.yds_model.proofs.Common.{◌≡◌, ℕ, ◌+◌, ◌*◌, ◌<◌, ◌≤◌, List, [], ◌∷◌, ◌++◌, length, arith, true, Option, Some, None, is_some, IfSome, All, sum_by, mul-le-mul_left, flat_map-append, append-nil, length_push, All-head, All-tail, All-push, sum_by-cons, sum_by-append, Job, IsJob, Task, TaskSet, nth_job, count_of_jobs, horizon_of, jobs_of_tasks, count_of_all}
use Rattle.base.specs.declared.limits.TheConstants.{MAX_JOBS, MAX_TASKS, MAX_TIME, MAX_WORK}
use Rattle.yds_laws.proofs.TaskWork.{jobs_of_task, jobs_until, works_of_task}
use Rattle.yds_tasks.specs.KeptTasks.{IsTask, IsTaskSet, KeepsTasks, with_task}

-- a job that is due by the horizon is within its limits
pub due_fits : (horizon : ℕ) (task : Task) (k : ℕ) → IsTask task → horizon ≤ MAX_TIME → (nth_job task k).deadline ≤ horizon → IsJob (nth_job task k)
due_fits horizon task k kept within due = grind arith

-- one task more
pub count_more : (set : TaskSet) (task : Task) → count_of_all (with_task set task) ≡ count_of_all set + count_of_jobs (horizon_of set) task
count_more set task =
    omega (arith, sum_by-append (count_of_jobs (horizon_of set)) set.tasks (task ∷ []), sum_by-cons (count_of_jobs (horizon_of set)) task [])

pub works_more : (set : TaskSet) (task : Task) →
    sum_by (λ job. job.work) (jobs_of_tasks (with_task set task)) ≡ sum_by (λ job. job.work) (jobs_of_tasks set) + count_of_jobs (horizon_of set) task * task.work
works_more set task = grind (arith, append-nil, flat_map-append, jobs_of_task, jobs_until, sum_by-append, works_of_task)

-- no job has more than the greatest work
works_few : (horizon : ℕ) (tasks : List Task) → All IsTask tasks → sum_by (λ job. job.work) (jobs_until horizon tasks) ≤ MAX_WORK * sum_by (count_of_jobs horizon) tasks
works_few horizon [] kept = omega arith
works_few horizon (task ∷ tasks) kept =
    let own : List Job = jobs_of_task horizon task in
    omega (
      arith,
      sum_by-append (λ (job : Job). job.work) own (jobs_until horizon tasks),
      works_of_task horizon task,
      mul-le-mul_left (count_of_jobs horizon task) (All-head IsTask task tasks kept).work_in_range,
      sum_by-cons (count_of_jobs horizon) task tasks,
      works_few horizon tasks (All-tail IsTask task tasks kept),
    )

works_within : (set : TaskSet) → All IsTask set.tasks → sum_by (λ job. job.work) (jobs_of_tasks set) ≤ MAX_WORK * count_of_all set
works_within set kept = works_few (horizon_of set) set.tasks kept

-- # What a set keeps

time_within : (horizon : Option ℕ) → IfSome horizon (λ time. (1 ≤ time) × (time ≤ MAX_TIME)) → elim horizon [ None ↦ 0 | Some time ↦ time ] ≤ MAX_TIME
time_within None within = omega arith
time_within (Some time) within = within.1

pub horizon_within : (set : TaskSet) → IsTaskSet set → horizon_of set ≤ MAX_TIME
horizon_within set kept = time_within set.horizon kept.horizon_in_range

is_not_none : (horizon : Option ℕ) → is_some horizon ≡ true → horizon ≡ None → ⊥
is_not_none None some none = cc
is_not_none (Some time) some none = cc

keeps_more : (set : TaskSet) (task : Task) (jobs work : ℕ) → KeepsTasks set jobs work → IsTask task → is_some set.horizon ≡ true → length set.tasks < MAX_TASKS →
    count_of_all (with_task set task) ≤ MAX_JOBS →
    KeepsTasks (with_task set task) (jobs + count_of_jobs (horizon_of set) task) (work + count_of_jobs (horizon_of set) task * task.work)
keeps_more set task jobs work keeps fits some few room = record {
  kept = record {
    horizon_in_range = keeps.kept.horizon_in_range;
    horizon_first = λ none. absurd (is_not_none set.horizon some none);
    few = omega (arith, length_push set.tasks task, few);
    few_jobs = room;
    fit = All-push IsTask set.tasks task keeps.kept.fit fits;
  };
  counted = omega (arith, keeps.counted, count_more set task);
  summed = omega (arith, keeps.summed, works_more set task);
}

-- the same of what was pushed and added, where `set` is what stood before
pub keeps_pushed : (before set : TaskSet) (task : Task) (tasks : List Task) (jobs work count times each time : ℕ) → before ≡ set → KeepsTasks before jobs work → IsTask task →
    is_some set.horizon ≡ true → length set.tasks < MAX_TASKS → count_of_all (with_task set task) ≤ MAX_JOBS → tasks ≡ before.tasks ++ task ∷ [] →
    count ≡ count_of_jobs time task → time ≡ horizon_of set → times ≡ count → each ≡ task.work →
    KeepsTasks (record { horizon = before.horizon; tasks = tasks }) (jobs + count) (work + times * each)
keeps_pushed before set task tasks jobs work count times each time same keeps fits some few room grown is_count is_time is_times is_each = grind (arith, keeps_more)

-- and the new work has room in 64 bits
pub work_within : (set : TaskSet) (jobs work : ℕ) → KeepsTasks set jobs work → work ≤ MAX_WORK * MAX_JOBS
work_within set jobs work keeps = omega (arith, keeps.summed, works_within set keeps.kept.fit, keeps.kept.few_jobs)
