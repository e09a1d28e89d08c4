use Rattle.base.proofs.Common.{◌≡◌, ◌++◌, length}
use Rattle.yds_trace_words.specs.Letters.{letters_of}
use Rattle.yds_trace_words.proofs.letter.letters.Given as goal

abbrev pub invariant-loop-rest : goal.invariant-loop-rest
invariant-loop-rest l = l.letters.items ++ letters_of l.rest ≡ letters_of l.bytes

abbrev pub decreases-loop-rest : goal.decreases-loop-rest
decreases-loop-rest l = length l.rest
