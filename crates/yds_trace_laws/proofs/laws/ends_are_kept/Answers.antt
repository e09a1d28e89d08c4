use Rattle.yds_trace_laws.proofs.Times.{ends_are_kept}
use Rattle.yds_trace_laws.proofs.laws.ends_are_kept.Goals as goal

pub returns : goal.returns
returns c = ends_are_kept
