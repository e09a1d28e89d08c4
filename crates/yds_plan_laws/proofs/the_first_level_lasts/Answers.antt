use Rattle.yds_plan_laws.proofs.Pending.{the_first_level_lasts}
use Rattle.yds_plan_laws.proofs.the_first_level_lasts.Goals as goal

pub returns : goal.returns
returns c = the_first_level_lasts
