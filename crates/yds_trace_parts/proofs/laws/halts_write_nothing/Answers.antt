use Rattle.yds_trace_parts.proofs.Growing.{halting_text}
use Rattle.yds_trace_parts.proofs.laws.halts_write_nothing.Goals as goal

pub returns : goal.returns
returns c = halting_text
