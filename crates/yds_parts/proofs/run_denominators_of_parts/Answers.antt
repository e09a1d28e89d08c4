use Rattle.yds_parts.proofs.RunsOfParts.{run_denominators_of_parts}
use Rattle.yds_parts.proofs.run_denominators_of_parts.Goals as goal

pub returns : goal.returns
returns c = run_denominators_of_parts
