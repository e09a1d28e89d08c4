use Rattle.yds_point_laws.proofs.PointCosts.{policies_cost_at_most}
use Rattle.yds_point_laws.proofs.policies_cost_at_most.Goals as goal

pub returns : goal.returns
returns c = policies_cost_at_most
