use Rattle.yds_model.proofs.Common.{AnswersRequest, subst}
use Rattle.yds_words.proofs.AskedWords.{named}
use Rattle.yds_answer.specs.Endings.{Replies}
use Rattle.yds_run.proofs.on_bytes.run_on_bytes.Goals as goal

pub returns-in-Some-Document : goal.returns-in-Some-Document
returns-in-Some-Document g c =
    subst (λ asks. Replies g.K.Sink.written g.K.Sink.flushed g.K.Sink.flushes g.K.Sink.faults (AnswersRequest asks c.args.input.now) c.answer_document_of.result c.args.sink.now c.answer_document_of.new.sink)
    (named _ _ _ c.in-Some-Document.field-0-is c.in-Some-Document.ensures.asked) c.answer_document_of.ensures

pub returns-in-Some-Expand : goal.returns-in-Some-Expand
returns-in-Some-Expand g c =
    subst (λ asks. Replies g.K.Sink.written g.K.Sink.flushed g.K.Sink.flushes g.K.Sink.faults (AnswersRequest asks c.args.input.now) c.answer_tasks_of.result c.args.sink.now c.answer_tasks_of.new.sink)
    (named _ _ _ c.in-Some-Expand.field-0-is c.in-Some-Expand.ensures.asked) c.answer_tasks_of.ensures

pub returns-in-Some-Trial : goal.returns-in-Some-Trial
returns-in-Some-Trial g c =
    subst (λ asks. Replies g.K.Sink.written g.K.Sink.flushed g.K.Sink.flushes g.K.Sink.faults (AnswersRequest asks c.args.input.now) c.answer_trial.result c.args.sink.now c.answer_trial.new.sink)
    (named _ _ _ c.in-Some-Trial.field-0-is c.in-Some-Trial.ensures.asked) c.answer_trial.ensures
