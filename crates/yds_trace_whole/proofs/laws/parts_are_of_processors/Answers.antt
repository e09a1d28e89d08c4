use Rattle.yds_trace_whole.proofs.Everywhere.{parts_are_of_processors}
use Rattle.yds_trace_whole.proofs.laws.parts_are_of_processors.Goals as goal

pub returns : goal.returns
returns c = parts_are_of_processors
