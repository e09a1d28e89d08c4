use Rattle.yds_answer.proofs.Replied.{made_replies}
use Rattle.yds_answer_plans.proofs.plan.answer_plan.Goals as goal

pub returns : goal.returns
returns g c = made_replies _ _ _ _ _ _ _ _ _ _ _ c.plan_document.ensures c.reply.ensures
