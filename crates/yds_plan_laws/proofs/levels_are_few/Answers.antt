use Rattle.yds_plan_laws.proofs.FewLevels.{levels_are_few}
use Rattle.yds_plan_laws.proofs.levels_are_few.Goals as goal

pub returns : goal.returns
returns c = levels_are_few
