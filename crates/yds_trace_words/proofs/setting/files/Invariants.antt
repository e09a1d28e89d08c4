use Rattle.base.proofs.Common.{◌≡◌, ◌++◌, length}
use Rattle.yds_trace_words.specs.Words.{files_of}
use Rattle.yds_trace_words.specs.Views.{words_of, names_read}
use Rattle.yds_trace_words.proofs.setting.files.Given as goal

abbrev pub invariant-loop-first : goal.invariant-loop-first
invariant-loop-first l = names_read l.files ++ files_of (words_of l.rest) ≡ files_of (words_of l.words)

abbrev pub decreases-loop-first : goal.decreases-loop-first
decreases-loop-first l = length l.rest
