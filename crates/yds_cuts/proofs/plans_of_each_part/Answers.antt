use Rattle.yds_cuts.proofs.ClosedCuts.{plans_of_each_part}
use Rattle.yds_cuts.proofs.plans_of_each_part.Goals as goal

pub returns : goal.returns
returns c = plans_of_each_part
