use Rattle.yds_trace_laws.proofs.Faithful.{documents_are_faithful}
use Rattle.yds_trace_laws.proofs.laws.documents_are_faithful.Goals as goal

pub returns : goal.returns
returns c = documents_are_faithful
