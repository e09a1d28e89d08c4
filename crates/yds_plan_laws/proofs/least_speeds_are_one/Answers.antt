use Rattle.yds_plan_laws.proofs.Certified.{least_speeds_are_one}
use Rattle.yds_plan_laws.proofs.least_speeds_are_one.Goals as goal

pub returns : goal.returns
returns c = least_speeds_are_one
