use Rattle.yds_trace_whole.proofs.Everywhere.{all_parts_are_kept}
use Rattle.yds_trace_whole.proofs.laws.all_parts_are_kept.Goals as goal

pub returns : goal.returns
returns c = all_parts_are_kept
