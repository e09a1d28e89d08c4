use Rattle.yds_trace_laws.proofs.Times.{order_is_kept}
use Rattle.yds_trace_laws.proofs.laws.order_is_kept.Goals as goal

pub returns : goal.returns
returns c = order_is_kept
