use Rattle.yds_trace_whole.proofs.Worth.{nothing_is_late_in_parts}
use Rattle.yds_trace_whole.proofs.worth_laws.nothing_is_late_in_parts.Goals as goal

pub returns : goal.returns
returns c = nothing_is_late_in_parts
