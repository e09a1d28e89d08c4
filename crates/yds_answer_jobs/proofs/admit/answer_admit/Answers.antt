use Rattle.yds_answer.proofs.Replied.{made_replies}
use Rattle.yds_answer_jobs.proofs.admit.answer_admit.Goals as goal

pub returns : goal.returns
returns g c = made_replies _ _ _ _ _ _ _ _ _ _ _ c.admit_document.ensures c.reply.ensures
