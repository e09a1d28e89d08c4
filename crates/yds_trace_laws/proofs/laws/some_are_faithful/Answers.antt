use Rattle.yds_trace_laws.proofs.Faithful.{some_are_faithful}
use Rattle.yds_trace_laws.proofs.laws.some_are_faithful.Goals as goal

pub returns : goal.returns
returns c = some_are_faithful
