use Rattle.yds_point_laws.proofs.NearRate.{runs_are_near_the_policy}
use Rattle.yds_point_laws.proofs.runs_are_near_the_policy.Goals as goal

pub returns : goal.returns
returns c = runs_are_near_the_policy
