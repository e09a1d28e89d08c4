use Rattle.yds_trace_parts.proofs.Steps.{place_there}
use Rattle.yds_trace_parts.proofs.laws.parts_end.Goals as goal

pub returns : goal.returns
returns c = place_there
