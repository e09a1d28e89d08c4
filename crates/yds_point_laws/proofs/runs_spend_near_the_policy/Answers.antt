use Rattle.yds_point_laws.proofs.NearRate.{runs_spend_near_the_policy}
use Rattle.yds_point_laws.proofs.runs_spend_near_the_policy.Goals as goal

pub returns : goal.returns
returns c = runs_spend_near_the_policy
