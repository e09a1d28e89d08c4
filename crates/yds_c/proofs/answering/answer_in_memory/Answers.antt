use Rattle.yds_model.proofs.Common.{ap}
use Rattle.yds_words.specs.Words.{words_of}
use Rattle.yds_c.specs.Text.{TextState}
use Rattle.yds_c.proofs.Answered.{ended_whole, whole_is_answer}
use Rattle.yds_c.proofs.answering.answer_in_memory.Goals as goal

pub returns-in_default : goal.returns-in_default
returns-in_default c =
    whole_is_answer (words_of c.args.words.now) c.args.input.now c.new-text.result.written c.run_on_bytes.new.sink.written _ (ap (λ (text : TextState). text.written) c.new-text.ensures)
    (ended_whole _ c.in_default.not-ReadFault c.in_default.not-WriteFault c.in_default.not-Memory)
    (c.run_on_bytes.ensures.answer c.in_default.not-Memory)
