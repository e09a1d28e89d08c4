use Rattle.yds_trace_parts.proofs.Growing.{lines_begin}
use Rattle.yds_trace_parts.proofs.laws.told_grows.Goals as goal

pub returns : goal.returns
returns c = lines_begin
