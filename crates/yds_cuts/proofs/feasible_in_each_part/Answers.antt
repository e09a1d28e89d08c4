use Rattle.yds_cuts.proofs.ServedParts.{feasible_in_each_part}
use Rattle.yds_cuts.proofs.feasible_in_each_part.Goals as goal

pub returns : goal.returns
returns c = feasible_in_each_part
