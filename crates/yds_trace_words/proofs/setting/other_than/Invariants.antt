use Rattle.base.proofs.Common.{◌≡◌, drop, map}
use Rattle.yds_trace_words.specs.Words.{other_than}
use Rattle.yds_trace_words.specs.Views.{setting_read}
use Rattle.yds_trace_words.proofs.setting.other_than.Given as goal

abbrev pub invariant-loop-setting : goal.invariant-loop-setting
invariant-loop-setting l = other_than l.name (map setting_read (drop l.setting-index l.settings)) ≡ other_than l.name (map setting_read l.settings)
