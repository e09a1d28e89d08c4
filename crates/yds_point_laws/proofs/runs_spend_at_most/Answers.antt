use Rattle.yds_point_laws.proofs.PolicySpends.{runs_spend_at_most}
use Rattle.yds_point_laws.proofs.runs_spend_at_most.Goals as goal

pub returns : goal.returns
returns c = runs_spend_at_most
