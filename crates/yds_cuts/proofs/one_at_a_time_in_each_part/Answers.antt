use Rattle.yds_cuts.proofs.InTurn.{one_at_a_time_in_each_part}
use Rattle.yds_cuts.proofs.one_at_a_time_in_each_part.Goals as goal

pub returns : goal.returns
returns c = one_at_a_time_in_each_part
