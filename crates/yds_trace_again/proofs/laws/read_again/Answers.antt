use Rattle.yds_trace_again.proofs.Again.{read_again}
use Rattle.yds_trace_again.proofs.laws.read_again.Goals as goal

pub returns : goal.returns
returns c = read_again
