use Rattle.yds_plan_laws.proofs.OneCertificate.{levels_are_one}
use Rattle.yds_plan_laws.proofs.levels_are_one.Goals as goal

pub returns : goal.returns
returns c = levels_are_one
