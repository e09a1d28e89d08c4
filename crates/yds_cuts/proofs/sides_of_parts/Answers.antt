use Rattle.yds_cuts.proofs.SidesOfParts.{sides_of_parts}
use Rattle.yds_cuts.proofs.sides_of_parts.Goals as goal

pub returns : goal.returns
returns c = sides_of_parts
