use Rattle.yds_plan_laws.proofs.Once.{plans_answer_once}
use Rattle.yds_plan_laws.proofs.plans_answer_once.Goals as goal

pub returns : goal.returns
returns c = plans_answer_once
