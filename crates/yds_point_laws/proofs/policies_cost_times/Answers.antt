use Rattle.yds_point_laws.proofs.PricedCosts.{policies_cost_times}
use Rattle.yds_point_laws.proofs.policies_cost_times.Goals as goal

pub returns : goal.returns
returns c = policies_cost_times
