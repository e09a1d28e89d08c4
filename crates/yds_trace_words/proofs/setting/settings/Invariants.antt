use Rattle.base.proofs.Common.{◌≡◌, map, length}
use Rattle.yds_trace_words.specs.Words.{settings_of}
use Rattle.yds_trace_words.specs.Views.{words_of, setting_read}
use Rattle.yds_trace_words.proofs.Settings.{ahead}
use Rattle.yds_trace_words.proofs.setting.settings.Given as goal

abbrev pub invariant-loop-first : goal.invariant-loop-first
invariant-loop-first l = settings_of (words_of l.words) ≡ ahead (map setting_read l.settings.items) (settings_of (words_of l.rest))

abbrev pub decreases-loop-first : goal.decreases-loop-first
decreases-loop-first l = length l.rest
