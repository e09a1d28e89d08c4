use Rattle.yds_answer.proofs.Replied.{made_replies}
use Rattle.yds_answer_verdicts.proofs.trial.answer_trial.Goals as goal

pub returns : goal.returns
returns g c = made_replies _ _ _ _ _ _ _ _ _ _ _ c.try_plan.ensures c.reply.ensures
