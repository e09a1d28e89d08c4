use Rattle.yds_model.proofs.Common.{Some, AnswersReading, AnswersRequest, OfDocument, reading}
use Rattle.yds_words.specs.Words.{question_view}
use Rattle.yds_answer.proofs.Complete.{short_answer}
use Rattle.yds_answer.proofs.Replied.{replies_of}
use Rattle.yds_run.proofs.on_bytes.answer_document_of.Goals as goal

pub returns : goal.returns
returns g c =
    replies_of _ _ _ _ (AnswersReading (question_view c.args.question) (reading c.args.input.now)) (AnswersRequest (Some (OfDocument (question_view c.args.question))) c.args.input.now) _ _ _
    (λ text status answers. short_answer (λ input. AnswersReading (question_view c.args.question) (reading input)) c.args.input.now text status c.if-input-gt-MAX_INPUT.false answers)
    c.answer_bytes.ensures
