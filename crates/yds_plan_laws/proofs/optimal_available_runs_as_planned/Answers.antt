use Rattle.yds_plan_laws.proofs.Pending.{optimal_available_runs_as_planned}
use Rattle.yds_plan_laws.proofs.optimal_available_runs_as_planned.Goals as goal

pub returns : goal.returns
returns c = optimal_available_runs_as_planned
