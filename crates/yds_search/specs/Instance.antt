-- What stays the same while groups are looked for.
use Rattle.std.specs.Prelude.{ℕ, ◌*◌, ◌<◌, ◌≤◌, List, length}
use Rattle.yds_model.specs.Job.{Job, job_at}
use Rattle.yds_model.specs.Event.{stretches}
use Rattle.base.specs.declared.limits.TheConstants.{MAX_JOBS, MAX_TIME, MAX_WORK}
use Rattle.yds_events.specs.declared.window.Window.{Window}
use Rattle.yds_events.specs.Window.{length_at, AreWindows}

pub record IsInstance (jobs : List Job) (windows : List Window) : Type 0 where
  pub few : length jobs ≤ MAX_JOBS
  pub few_stretches : length (stretches jobs) ≤ 2 * MAX_JOBS
  pub windows_are : AreWindows jobs windows
  pub work_small : (j : ℕ) → j < length jobs → (job_at jobs j).work ≤ MAX_WORK
  pub length_some : (k : ℕ) → k < length (stretches jobs) → 1 ≤ length_at jobs k
  pub length_small : (k : ℕ) → k < length (stretches jobs) → length_at jobs k ≤ MAX_TIME
