use Rattle.yds_plan_laws.proofs.Pending.{optimal_available_goes_by_the_plan}
use Rattle.yds_plan_laws.proofs.optimal_available_goes_by_the_plan.Goals as goal

pub returns : goal.returns
returns c = optimal_available_goes_by_the_plan
