use Rattle.yds_answer.proofs.Replied.{made_replies}
use Rattle.yds_answer_plans.proofs.report.answer_report.Goals as goal

pub returns : goal.returns
returns g c = made_replies _ _ _ _ _ _ _ _ _ _ _ c.report_document.ensures c.reply.ensures
