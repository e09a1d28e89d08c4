use Rattle.yds_answer.proofs.Replied.{made_replies}
use Rattle.yds_answer_verdicts.proofs.check.answer_check.Goals as goal

pub returns : goal.returns
returns g c = made_replies _ _ _ _ _ _ _ _ _ _ _ c.check_document.ensures c.reply.ensures
