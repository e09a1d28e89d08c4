use Rattle.base.proofs.Common.{◌≡◌, ◌++◌, take}
use Rattle.yds_trace_words.specs.Views.{words_of, names_read}
use Rattle.yds_trace_words.proofs.setting.with_all.Given as goal

abbrev pub invariant-loop-word : goal.invariant-loop-word
invariant-loop-word l = names_read l.files ≡ names_read l.initial.files ++ words_of (take l.word-index l.words)
