use Rattle.yds_model.proofs.Common.{◌≡◌, map, range_with_len}
use Rattle.yds_events.specs.Keys.{key_of}
use Rattle.yds_events.proofs.timeline.sorted_keys.Given as goal

abbrev pub invariant-loop-number : goal.invariant-loop-number
invariant-loop-number l = l.keys.items ≡ map (key_of l.times) (range_with_len 0 l.number)
