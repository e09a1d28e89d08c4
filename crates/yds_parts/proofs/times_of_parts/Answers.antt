use Rattle.yds_parts.proofs.SpentOfParts.{times_of_parts}
use Rattle.yds_parts.proofs.times_of_parts.Goals as goal

pub returns : goal.returns
returns c = times_of_parts
