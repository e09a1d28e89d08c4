use Rattle.yds_answer.proofs.Replied.{made_replies}
use Rattle.yds_answer_points.proofs.round.answer_round.Goals as goal

pub returns : goal.returns
returns g c = made_replies _ _ _ _ _ _ _ _ _ _ _ c.round_document.ensures c.reply.ensures
