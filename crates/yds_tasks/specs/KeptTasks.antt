-- What a task keeps, and what tasks under a horizon keep together.
use Rattle.std.specs.Prelude.{◌≡◌, ℕ, ◌≤◌, List, [], ◌∷◌, ◌++◌, length, None, IfSome, IsTrue, sum_by}
use Rattle.std.specs.List.{All, slice_index_or}
use Rattle.base.specs.declared.limits.TheConstants.{MAX_JOBS, MAX_TASKS, MAX_TIME, MAX_WORK}
use Rattle.yds_model.specs.Tasks.{Task, TaskSet, jobs_of_tasks}
use Rattle.yds_model.specs.TaskReading.{is_task_name, count_of_all}

-- its name and its numbers are within their limits
pub record IsTask (task : Task) : Type 0 where
  pub named : IsTrue (is_task_name task.name)
  pub offset_in_range : task.offset ≤ MAX_TIME
  pub has_period : 1 ≤ task.period
  pub period_in_range : task.period ≤ MAX_TIME
  pub has_deadline : 1 ≤ task.deadline
  pub deadline_in_range : task.deadline ≤ MAX_TIME
  pub work_in_range : task.work ≤ MAX_WORK

-- tasks are under a horizon, and have no more jobs than a document may have
pub record IsTaskSet (set : TaskSet) : Type 0 where
  pub horizon_in_range : IfSome set.horizon (λ horizon. (1 ≤ horizon) × (horizon ≤ MAX_TIME))
  pub horizon_first : set.horizon ≡ None → set.tasks ≡ []
  pub few : length set.tasks ≤ MAX_TASKS
  pub few_jobs : count_of_all set ≤ MAX_JOBS
  pub fit : All IsTask set.tasks

-- beside them the number of their jobs, and the work of these
pub record KeepsTasks (set : TaskSet) (jobs work : ℕ) : Type 0 where
  pub kept : IsTaskSet set
  pub counted : jobs ≡ count_of_all set
  pub summed : work ≡ sum_by (λ job. job.work) (jobs_of_tasks set)

-- the same with one task more
abbrev pub with_task : TaskSet → Task → TaskSet
with_task set task = record { horizon = set.horizon; tasks = set.tasks ++ task ∷ [] }

-- the task of this number, from 0; `no_task` stands where there is none
abbrev pub no_task : Task
no_task = record { name = []; offset = 0; period = 0; deadline = 0; work = 0 }

abbrev pub task_at : List Task → ℕ → Task
task_at tasks number = slice_index_or tasks number no_task
