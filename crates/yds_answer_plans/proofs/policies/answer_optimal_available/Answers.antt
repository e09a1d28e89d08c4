use Rattle.yds_answer.proofs.Replied.{made_replies}
use Rattle.yds_answer_plans.proofs.policies.answer_optimal_available.Goals as goal

pub returns : goal.returns
returns g c = made_replies _ _ _ _ _ _ _ _ _ _ _ c.optimal_available_document.ensures c.reply.ensures
