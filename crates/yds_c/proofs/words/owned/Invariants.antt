use Rattle.yds_model.proofs.Common.{◌≡◌, take}
use Rattle.yds_words.specs.Words.{words_of}
use Rattle.yds_c.specs.Given.{bytes_of}
use Rattle.yds_c.proofs.words.owned.Given as goal

abbrev pub invariant-loop-word : goal.invariant-loop-word
invariant-loop-word l = words_of l.owned.items ≡ bytes_of (take l.word-index l.words)
