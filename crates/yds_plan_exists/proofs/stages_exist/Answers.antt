use Rattle.yds_plan_exists.proofs.Exists.{stages_exist}
use Rattle.yds_plan_exists.proofs.stages_exist.Goals as goal

pub returns : goal.returns
returns c = stages_exist c.args._alloc
