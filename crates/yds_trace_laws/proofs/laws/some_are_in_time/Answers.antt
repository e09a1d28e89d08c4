use Rattle.yds_trace_laws.proofs.Seen.{some_are_in_time}
use Rattle.yds_trace_laws.proofs.laws.some_are_in_time.Goals as goal

pub returns : goal.returns
returns c = some_are_in_time
