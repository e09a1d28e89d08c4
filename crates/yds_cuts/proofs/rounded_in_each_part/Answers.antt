use Rattle.yds_cuts.proofs.CheapestParts.{rounded_in_each_part}
use Rattle.yds_cuts.proofs.rounded_in_each_part.Goals as goal

pub returns : goal.returns
returns c = rounded_in_each_part
