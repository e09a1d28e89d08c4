use Rattle.yds_plan_laws.proofs.OnceRounded.{round_answers_once}
use Rattle.yds_plan_laws.proofs.round_answers_once.Goals as goal

pub returns : goal.returns
returns c = round_answers_once
