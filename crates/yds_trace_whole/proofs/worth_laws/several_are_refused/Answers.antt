use Rattle.yds_trace_whole.proofs.Several.{several_are_refused}
use Rattle.yds_trace_whole.proofs.worth_laws.several_are_refused.Goals as goal

pub returns : goal.returns
returns c = several_are_refused
