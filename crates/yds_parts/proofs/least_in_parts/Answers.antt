use Rattle.yds_parts.proofs.WrittenParts.{least_in_parts}
use Rattle.yds_parts.proofs.least_in_parts.Goals as goal

pub returns : goal.returns
returns c = least_in_parts
