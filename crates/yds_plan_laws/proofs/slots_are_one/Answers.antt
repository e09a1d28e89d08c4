use Rattle.yds_plan_laws.proofs.OnePlan.{slots_are_one}
use Rattle.yds_plan_laws.proofs.slots_are_one.Goals as goal

pub returns : goal.returns
returns c = slots_are_one
