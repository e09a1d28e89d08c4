-- Periodic tasks. A task asks for a job at its offset and again after each period, as long as the job's deadline comes by the
-- horizon.
use Rattle.std.specs.Prelude.{ℕ, ◌+◌, ◌-◌, ◌*◌, ◌/◌, ◌%◌, List, ◌++◌, codes, decimal, map, sum_by, Option, Some, None, Bool, nat_lt, nat_le, ◌==◌, ◌&&◌, if◌then◌else◌}
use Rattle.std.specs.List.{flat_map, range_with_len, list_all, list_any}
use Rattle.yds_model.specs.Job.{Job}

-- its first job is released at the offset, and one more after each period; a job's deadline comes `deadline` after its release
pub record Task : Type 0 where
  pub name : List ℕ
  pub offset : ℕ
  pub period : ℕ
  pub deadline : ℕ
  pub work : ℕ

-- tasks under a horizon, which may not be said
pub record TaskSet : Type 0 where
  pub horizon : Option ℕ
  pub tasks : List Task

-- the job that comes k periods after the task's first, and its name
abbrev pub nth_job : Task → ℕ → Job
nth_job task k = record {
  release = task.offset + k * task.period;
  deadline = task.offset + k * task.period + task.deadline;
  work = task.work;
}

abbrev pub nth_name : Task → ℕ → List ℕ
nth_name task k = task.name ++ codes "." ++ decimal k

-- How many jobs a task has: those for which `offset + k * period + deadline` is at most the horizon.
abbrev pub count_of_jobs : ℕ → Task → ℕ
count_of_jobs horizon task =
    if nat_lt horizon (task.offset + task.deadline) then 0
    else (horizon - (task.offset + task.deadline)) / task.period + 1

-- the numbers of a task's jobs, from 0
abbrev pub numbers_of_jobs : ℕ → Task → List ℕ
numbers_of_jobs horizon task = range_with_len 0 (count_of_jobs horizon task)

-- without a horizon there is no task, and the time 0 stands for it
abbrev pub horizon_of : TaskSet → ℕ
horizon_of set = elim set.horizon [ None ↦ 0 | Some horizon ↦ horizon ]

-- the jobs of all tasks, task by task, and their names
abbrev pub jobs_of_tasks : TaskSet → List Job
jobs_of_tasks set = flat_map (λ task. map (nth_job task) (numbers_of_jobs (horizon_of set) task)) set.tasks

abbrev pub names_of_tasks : TaskSet → List (List ℕ)
names_of_tasks set = flat_map (λ task. map (nth_name task) (numbers_of_jobs (horizon_of set) task)) set.tasks

-- the task's jobs follow one another without a gap from 0 to the horizon
abbrev pub fills_horizon : ℕ → Task → Bool
fills_horizon horizon task = (task.offset == 0) && (task.deadline == task.period) && (horizon % task.period == 0)

abbrev pub has_work : Task → Bool
has_work task = nat_le 1 task.work

-- The one level of each plan of the jobs, its work and its length: where the jobs of every task follow one another without a gap
-- from 0 to the horizon, and some task has work.
abbrev pub level_until : ℕ → TaskSet → Option (ℕ × ℕ)
level_until horizon set =
    if list_all (fills_horizon horizon) set.tasks && list_any has_work set.tasks
    then Some (sum_by (λ job. job.work) (jobs_of_tasks set), horizon) else None

abbrev pub one_level : TaskSet → Option (ℕ × ℕ)
one_level set = elim set.horizon [ None ↦ None | Some horizon ↦ level_until horizon set ]
