use Rattle.yds_trace_laws.proofs.Processors.{none_has_moved}
use Rattle.yds_trace_laws.proofs.laws.none_has_moved.Goals as goal

pub returns : goal.returns
returns c = none_has_moved
