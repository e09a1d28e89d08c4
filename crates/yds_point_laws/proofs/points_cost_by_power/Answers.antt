use Rattle.yds_point_laws.proofs.PointCosts.{points_cost_by_power}
use Rattle.yds_point_laws.proofs.points_cost_by_power.Goals as goal

pub returns : goal.returns
returns c = points_cost_by_power
