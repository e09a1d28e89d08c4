use Rattle.yds_model.proofs.Common.{subst, inl, arith, AnswersReading, reading}
use Rattle.yds_words.specs.Words.{question_view}
use Rattle.yds_answer.specs.Endings.{Writes}
use Rattle.yds_answer.proofs.Complete.{short_answers}
use Rattle.yds_run.proofs.running.answer_input.Goals as goal

pub returns-in-Ok-clause-answer : goal.returns-in-Ok-clause-answer
returns-in-Ok-clause-answer g c = λ memory fault. record {
  taken = c.in-Ok.bytes.items;
  consumed = c.in-Ok.ensures.reads.consumed;
  ended = inl c.in-Ok.ensures.reads.at_end;
  answered = short_answers (λ input. AnswersReading (question_view c.args.question) (reading input)) c.in-Ok.bytes.items _ _ _ _ (omega (arith, c.in-Ok.ensures.reads.within))
      (subst (λ bytes. Writes (AnswersReading (question_view c.args.question) (reading bytes)) c.answer_bytes.result (g.K.Sink.written c.args.sink.now)
      (g.K.Sink.written c.answer_bytes.new.sink) (g.K.Sink.flushed c.answer_bytes.new.sink)) c.deref.ensures.value (c.answer_bytes.ensures.answer memory));
}
