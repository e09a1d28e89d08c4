use Rattle.yds_cuts.proofs.CheapestParts.{cheapest_in_each_part}
use Rattle.yds_cuts.proofs.cheapest_in_each_part.Goals as goal

pub returns : goal.returns
returns c = cheapest_in_each_part
