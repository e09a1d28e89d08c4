use Rattle.yds_trace_whole.proofs.Parting.{parts_are_the_whole}
use Rattle.yds_trace_whole.proofs.laws.parts_are_the_whole.Goals as goal

pub returns : goal.returns
returns c = parts_are_the_whole
