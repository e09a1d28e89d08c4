use Rattle.yds_trace_whole.proofs.Worth.{parts_are_faithful}
use Rattle.yds_trace_whole.proofs.worth_laws.parts_are_faithful.Goals as goal

pub returns : goal.returns
returns c = parts_are_faithful
