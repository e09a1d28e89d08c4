-- How long the stretches of jobs are together.
use Rattle.yds_model.proofs.Common.{◌≡◌, ℕ, ◌≤◌, List, ◌∙◌, sym, arith, sum_by, All, Job, IsJob, stretches, horizon}
use Rattle.model_lemmas.proofs.Horizon.{last_within}
use Rattle.base.specs.declared.limits.TheConstants.{MAX_TIME}
use Rattle.yds_events.specs.Stretch.{length_of}
use Rattle.yds_energy.proofs.StretchTimes.{stretches_long}

pub as_long : (jobs : List Job) → All IsJob jobs → sum_by length_of (stretches jobs) ≡ horizon jobs
as_long jobs are = stretches_long jobs (λ k d within. (are k d within).has_window)

-- the time of the horizon, as it is counted
pub time_is : (jobs : List Job) → All IsJob jobs → {time long : ℕ} → time ≡ long → long ≡ horizon jobs → time ≡ sum_by length_of (stretches jobs)
time_is jobs are time_counted counted = time_counted ∙ counted ∙ sym (as_long jobs are)

pub no_longer : (jobs : List Job) → All IsJob jobs → sum_by length_of (stretches jobs) ≤ MAX_TIME
no_longer jobs are = omega (arith, as_long jobs are, last_within jobs are)
