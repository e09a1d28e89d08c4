use Rattle.yds_model.proofs.Common.{take}
use Rattle.yds_c.specs.Given.{AreText}
use Rattle.yds_c.proofs.words.are_text.Given as goal

abbrev pub invariant-loop-word : goal.invariant-loop-word
invariant-loop-word l = AreText (take l.word-index l.words)
