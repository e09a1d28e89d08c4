use Rattle.yds_ratios.proofs.PlansByPower.{plans_spend_least}
use Rattle.yds_ratios.proofs.plans_spend_least.Goals as goal

pub returns : goal.returns
returns c = plans_spend_least
