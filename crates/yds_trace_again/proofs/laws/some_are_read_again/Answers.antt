use Rattle.yds_trace_again.proofs.Again.{some_are_read_again}
use Rattle.yds_trace_again.proofs.laws.some_are_read_again.Goals as goal

pub returns : goal.returns
returns c = some_are_read_again
