-- The critical interval of jobs.
use Rattle.std.specs.Prelude.{◌≡◌, ℕ, ◌<◌, List, [], Option, Some, None, map}
use Rattle.std.specs.List.{Contains}
use Rattle.yds_model.specs.Job.{Job}
use Rattle.yds_model.specs.Confined.{work_within}
use Rattle.yds_critical.specs.declared.interval.Interval.{Interval}
use Rattle.yds_critical.specs.Leading.{Leads}

-- from a release to a deadline, with the work confined to it
pub record IsCandidate (jobs : List Job) (interval : Interval) : Type 0 where
  pub forward : interval.start < interval.end
  pub is_release : Contains (map (λ job. job.release) jobs) interval.start
  pub is_deadline : Contains (map (λ job. job.deadline) jobs) interval.end
  pub is_work : interval.work ≡ work_within jobs interval.start interval.end

-- It goes before every interval of time with the work confined to that: no intensity is greater, and of those with the same
-- intensity it begins first, and of those that begin there it ends last.
pub record IsCritical (jobs : List Job) (interval : Interval) : Type 0 where
  pub candidate : IsCandidate jobs interval
  pub leads : (from to : ℕ) → from < to → Leads interval (record { start = from; end = to; work = work_within jobs from to })

-- the critical interval of some jobs, none of no jobs
abbrev pub IsCriticalOf : List Job → Option Interval → Type 0
IsCriticalOf jobs None = jobs ≡ []
IsCriticalOf jobs (Some interval) = IsCritical jobs interval
