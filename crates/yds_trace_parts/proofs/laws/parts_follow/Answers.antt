use Rattle.yds_trace_parts.proofs.Steps.{part_follows}
use Rattle.yds_trace_parts.proofs.laws.parts_follow.Goals as goal

pub returns : goal.returns
returns c = part_follows
