use Rattle.yds_plan_laws.proofs.OnceRounded.{roundings_are_one}
use Rattle.yds_plan_laws.proofs.roundings_are_one.Goals as goal

pub returns : goal.returns
returns c = roundings_are_one
