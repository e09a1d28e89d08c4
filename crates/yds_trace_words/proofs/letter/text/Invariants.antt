use Rattle.base.proofs.Common.{◌≡◌, take}
use Rattle.yds_trace_words.specs.Letters.{text_of}
use Rattle.yds_trace_words.proofs.letter.text.Given as goal

abbrev pub invariant-loop-letter : goal.invariant-loop-letter
invariant-loop-letter l = l.text.items ≡ text_of (take l.letter-index l.letters)
