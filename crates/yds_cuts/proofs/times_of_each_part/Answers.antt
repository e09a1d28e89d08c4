use Rattle.yds_cuts.proofs.SpentParts.{times_of_each_part}
use Rattle.yds_cuts.proofs.times_of_each_part.Goals as goal

pub returns : goal.returns
returns c = times_of_each_part
