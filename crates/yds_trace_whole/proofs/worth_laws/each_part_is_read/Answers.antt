use Rattle.yds_trace_whole.proofs.Everywhere.{each_part_is_read}
use Rattle.yds_trace_whole.proofs.worth_laws.each_part_is_read.Goals as goal

pub returns : goal.returns
returns c = each_part_is_read
