use Rattle.yds_plan_laws.proofs.Certified.{levels_certify_the_least}
use Rattle.yds_plan_laws.proofs.levels_certify_the_least.Goals as goal

pub returns : goal.returns
returns c = levels_certify_the_least
