use Rattle.yds_plan_exists.proofs.Exists.{plans_exist}
use Rattle.yds_plan_exists.proofs.plans_exist.Goals as goal

pub returns : goal.returns
returns c = plans_exist c.args._alloc
