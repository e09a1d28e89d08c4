use Rattle.yds_trace_parts.proofs.Growing.{halted}
use Rattle.yds_trace_parts.proofs.laws.halts_stay.Goals as goal

pub returns : goal.returns
returns c = halted
