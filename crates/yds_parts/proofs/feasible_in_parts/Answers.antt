use Rattle.yds_parts.proofs.WrittenParts.{feasible_in_parts}
use Rattle.yds_parts.proofs.feasible_in_parts.Goals as goal

pub returns : goal.returns
returns c = feasible_in_parts
