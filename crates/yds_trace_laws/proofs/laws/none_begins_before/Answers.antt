use Rattle.yds_trace_laws.proofs.First.{none_begins_before}
use Rattle.yds_trace_laws.proofs.laws.none_begins_before.Goals as goal

pub returns : goal.returns
returns c = none_begins_before
