use Rattle.yds_model.proofs.Common.{subst, sym, AnswersReading}
use Rattle.yds_words.specs.Words.{question_view}
use Rattle.yds_answer.specs.Endings.{Replies}
use Rattle.yds_run.proofs.running.answer_bytes.Goals as goal

pub returns-in-Ok : goal.returns-in-Ok
returns-in-Ok g c =
    subst (λ read. Replies g.K.Sink.written g.K.Sink.flushed g.K.Sink.flushes g.K.Sink.faults (AnswersReading (question_view c.args.question) read) c.answer_document.result c.args.sink.now c.answer_document.new.sink)
    (sym c.in-Ok.ensures.exact) c.answer_document.ensures
