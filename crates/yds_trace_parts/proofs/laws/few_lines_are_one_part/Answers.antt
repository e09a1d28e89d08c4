use Rattle.yds_trace_parts.proofs.Steps.{few_lines}
use Rattle.yds_trace_parts.proofs.laws.few_lines_are_one_part.Goals as goal

pub returns : goal.returns
returns c = few_lines
