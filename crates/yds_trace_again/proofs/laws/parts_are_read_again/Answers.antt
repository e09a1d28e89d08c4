use Rattle.yds_trace_again.proofs.Parts.{parts_are_read_again}
use Rattle.yds_trace_again.proofs.laws.parts_are_read_again.Goals as goal

pub returns : goal.returns
returns c = parts_are_read_again
