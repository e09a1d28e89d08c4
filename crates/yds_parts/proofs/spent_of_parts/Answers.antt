use Rattle.yds_parts.proofs.SpentOfParts.{spent_of_parts}
use Rattle.yds_parts.proofs.spent_of_parts.Goals as goal

pub returns : goal.returns
returns c = spent_of_parts
