use Rattle.yds_trace_laws.proofs.Times.{lateness_is_kept}
use Rattle.yds_trace_laws.proofs.laws.lateness_is_kept.Goals as goal

pub returns : goal.returns
returns c = lateness_is_kept
