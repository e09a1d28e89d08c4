use Rattle.yds_trace_laws.proofs.Processors.{shares_are_the_whole}
use Rattle.yds_trace_laws.proofs.laws.shares_are_the_whole.Goals as goal

pub returns : goal.returns
returns c = shares_are_the_whole
