-- A job may run from its release to its deadline, and wants so much work in that window.
-- The model of Yao, Demers and Shenker (FOCS 1995).
use Rattle.std.specs.Prelude.{ℕ, ◌<◌, ◌≤◌, List, sum_by}
use Rattle.std.specs.List.{slice_index_or}
use Rattle.base.specs.declared.limits.TheConstants.{MAX_TIME, MAX_WORK}

pub record Job : Type 0 where
  pub release : ℕ
  pub deadline : ℕ
  pub work : ℕ

-- what the program takes for a job: a window that isn't empty, within the limits
pub record IsJob (job : Job) : Type 0 where
  pub has_window : job.release < job.deadline
  pub time_in_range : job.deadline ≤ MAX_TIME
  pub work_in_range : job.work ≤ MAX_WORK

-- A job's number is its place in the list, from 0. `no_job` stands where there is none.
abbrev pub no_job : Job
no_job = record { release = 0; deadline = 0; work = 0 }

abbrev pub job_at : List Job → ℕ → Job
job_at jobs number = slice_index_or jobs number no_job

-- the work of the jobs with these numbers, together
abbrev pub work_of : List Job → List ℕ → ℕ
work_of jobs numbers = sum_by (λ number. (job_at jobs number).work) numbers
