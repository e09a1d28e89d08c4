use Rattle.yds_trace_laws.proofs.Processors.{jobs_are_the_same}
use Rattle.yds_trace_laws.proofs.laws.jobs_are_the_same.Goals as goal

pub returns : goal.returns
returns c = jobs_are_the_same
