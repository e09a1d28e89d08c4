use Rattle.yds_answer.proofs.Replied.{made_replies}
use Rattle.yds_answer_plans.proofs.policies.answer_average_rate.Goals as goal

pub returns : goal.returns
returns g c = made_replies _ _ _ _ _ _ _ _ _ _ _ c.average_rate_document.ensures c.reply.ensures
