use Rattle.base.proofs.Common.{◌≡◌, drop, map}
use Rattle.yds_trace_words.specs.Words.{value_of}
use Rattle.yds_trace_words.specs.Views.{setting_read}
use Rattle.yds_trace_words.proofs.setting.value.Given as goal

abbrev pub invariant-loop-setting : goal.invariant-loop-setting
invariant-loop-setting l = value_of l.name (map setting_read (drop l.setting-index l.settings)) ≡ value_of l.name (map setting_read l.settings)
