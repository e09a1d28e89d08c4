use Rattle.yds_cuts.proofs.Verdicts.{verdict_of_parts}
use Rattle.yds_cuts.proofs.verdict_of_parts.Goals as goal

pub returns : goal.returns
returns c = verdict_of_parts
