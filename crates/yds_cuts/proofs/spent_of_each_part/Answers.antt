use Rattle.yds_cuts.proofs.SpentOfEachPart.{spent_of_each_part}
use Rattle.yds_cuts.proofs.spent_of_each_part.Goals as goal

pub returns : goal.returns
returns c = spent_of_each_part
