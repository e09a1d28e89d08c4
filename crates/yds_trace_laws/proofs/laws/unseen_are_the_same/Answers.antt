use Rattle.yds_trace_laws.proofs.Processors.{unseen_are_the_same}
use Rattle.yds_trace_laws.proofs.laws.unseen_are_the_same.Goals as goal

pub returns : goal.returns
returns c = unseen_are_the_same
