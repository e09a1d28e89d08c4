use Rattle.base.proofs.Common.{◌≡◌, map, length}
use Rattle.yds_trace_words.specs.Words.{given_twice}
use Rattle.yds_trace_words.specs.Views.{setting_read}
use Rattle.yds_trace_words.proofs.setting.twice.Given as goal

abbrev pub invariant-loop-rest : goal.invariant-loop-rest
invariant-loop-rest l = given_twice (map setting_read l.rest) ≡ given_twice (map setting_read l.settings)

abbrev pub decreases-loop-rest : goal.decreases-loop-rest
decreases-loop-rest l = length l.rest
