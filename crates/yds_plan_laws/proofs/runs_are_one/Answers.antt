use Rattle.yds_plan_laws.proofs.OneRun.{runs_are_one}
use Rattle.yds_plan_laws.proofs.runs_are_one.Goals as goal

pub returns : goal.returns
returns c = runs_are_one
