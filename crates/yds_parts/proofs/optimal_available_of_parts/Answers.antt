use Rattle.yds_parts.proofs.RunsOfParts.{optimal_available_of_parts}
use Rattle.yds_parts.proofs.optimal_available_of_parts.Goals as goal

pub returns : goal.returns
returns c = optimal_available_of_parts
