use Rattle.yds_trace_again.proofs.Holding.{late_jobs_are_named}
use Rattle.yds_trace_again.proofs.laws.late_jobs_are_named.Goals as goal

pub returns : goal.returns
returns c = late_jobs_are_named
