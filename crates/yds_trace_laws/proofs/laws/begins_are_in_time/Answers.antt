use Rattle.yds_trace_laws.proofs.Begins.{begins_in_time}
use Rattle.yds_trace_laws.proofs.laws.begins_are_in_time.Goals as goal

pub returns : goal.returns
returns c = begins_in_time
