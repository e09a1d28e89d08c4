use Rattle.yds_parts.proofs.PlansOfParts.{plans_of_parts}
use Rattle.yds_parts.proofs.plans_of_parts.Goals as goal

pub returns : goal.returns
returns c = plans_of_parts
