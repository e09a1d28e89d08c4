use Rattle.yds_plan_laws.proofs.MoreJobs.{more_jobs_never_slow}
use Rattle.yds_plan_laws.proofs.more_jobs_never_slow.Goals as goal

pub returns : goal.returns
returns c = more_jobs_never_slow
