use Rattle.yds_trace_text.proofs.Counts.{parts_count_on}
use Rattle.yds_trace_text.proofs.laws.parts_count_on.Goals as goal

pub returns : goal.returns
returns c = parts_count_on
