use Rattle.yds_cuts.proofs.ClosedCuts.{least_in_each_part}
use Rattle.yds_cuts.proofs.least_in_each_part.Goals as goal

pub returns : goal.returns
returns c = least_in_each_part
