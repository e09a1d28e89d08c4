use Rattle.yds_plan_laws.proofs.OnceAdmitted.{runs_answer_once}
use Rattle.yds_plan_laws.proofs.runs_answer_once.Goals as goal

pub returns : goal.returns
returns c = runs_answer_once
