use Rattle.yds_trace_laws.proofs.Processors.{each_job_belongs}
use Rattle.yds_trace_laws.proofs.laws.each_job_belongs.Goals as goal

pub returns : goal.returns
returns c = each_job_belongs
