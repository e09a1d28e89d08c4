use Rattle.yds_model.proofs.Common.{subst, inl, arith, AnswersTasks, task_reading}
use Rattle.yds_answer.specs.Endings.{Writes}
use Rattle.yds_answer.proofs.Complete.{short_answers}
use Rattle.yds_answer_jobs.proofs.expand.answer_tasks.Goals as goal

pub returns-in-Ok-clause-answer : goal.returns-in-Ok-clause-answer
returns-in-Ok-clause-answer g c = λ memory fault. record {
  taken = c.in-Ok.bytes.items;
  consumed = c.in-Ok.ensures.reads.consumed;
  ended = inl c.in-Ok.ensures.reads.at_end;
  answered = short_answers (λ input. AnswersTasks (task_reading input)) c.in-Ok.bytes.items _ _ _ _ (omega (arith, c.in-Ok.ensures.reads.within))
      (subst (λ bytes. Writes (AnswersTasks (task_reading bytes)) c.expand_bytes.result (g.K.Sink.written c.args.sink.now)
      (g.K.Sink.written c.expand_bytes.new.sink) (g.K.Sink.flushed c.expand_bytes.new.sink)) c.deref.ensures.value (c.expand_bytes.ensures.answer memory));
}
