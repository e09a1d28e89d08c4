use Rattle.yds_point_laws.proofs.RoundedCosts.{rounded_runs_cost_at_most}
use Rattle.yds_point_laws.proofs.rounded_runs_cost_at_most.Goals as goal

pub returns : goal.returns
returns c = rounded_runs_cost_at_most
