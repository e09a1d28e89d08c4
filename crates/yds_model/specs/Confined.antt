-- The work of jobs whose windows lie in an interval.
use Rattle.std.specs.Prelude.{ℕ, Bool, List, sum_by, nat_le, ◌&&◌, if◌then◌else◌}
use Rattle.yds_model.specs.Job.{Job}

-- the job's window lies between these times
abbrev pub window_is_within : ℕ → ℕ → Job → Bool
window_is_within from to job = nat_le from job.release && nat_le job.deadline to

-- the work of the jobs whose windows lie between these times
abbrev pub work_within : List Job → ℕ → ℕ → ℕ
work_within jobs from to = sum_by (λ job. if window_is_within from to job then job.work else 0) jobs

-- the work of the jobs that are released at a time or later
abbrev pub released_work : List Job → ℕ → ℕ
released_work jobs from = sum_by (λ job. if nat_le from job.release then job.work else 0) jobs
