use Rattle.yds_model.proofs.Common.{ap, subst, ◌∙◌}
use Rattle.yds_words.specs.Words.{words_of}
use Rattle.yds_c.specs.Answered.{IsAnswer}
use Rattle.yds_c.specs.Put.{IsPut}
use Rattle.yds_c.proofs.yds_answer.Goals as goal

pub returns-in-Ok-answer_in_memory-clause-answer : goal.returns-in-Ok-answer_in_memory-clause-answer
returns-in-Ok-answer_in_memory-clause-answer c = λ text memory. record {
  text = c.in-Ok-answer_in_memory.answer.text.written;
  status = c.in-Ok-answer_in_memory.answer.status;
  answer = subst (λ words. IsAnswer words c.args.input.now c.in-Ok-answer_in_memory.answer.text.written c.in-Ok-answer_in_memory.answer.status)
      (ap words_of c.deref.ensures.value ∙ c.in-Ok.ensures) c.in-Ok-answer_in_memory.ensures;
  returned = c.code-in-Ok-answer_in_memory.ensures;
  put = subst (λ text. IsPut text c.args.room.now c.put.new.room c.put.result) c.bytes.ensures c.put.ensures;
}
