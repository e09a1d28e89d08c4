use Rattle.yds_answer.proofs.Replied.{made_replies}
use Rattle.yds_answer_plans.proofs.report_json.answer_report_as_json.Goals as goal

pub returns : goal.returns
returns g c = made_replies _ _ _ _ _ _ _ _ _ _ _ c.json_document.ensures c.reply.ensures
