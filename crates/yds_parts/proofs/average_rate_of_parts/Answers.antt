use Rattle.yds_parts.proofs.RunsOfParts.{average_rate_of_parts}
use Rattle.yds_parts.proofs.average_rate_of_parts.Goals as goal

pub returns : goal.returns
returns c = average_rate_of_parts
