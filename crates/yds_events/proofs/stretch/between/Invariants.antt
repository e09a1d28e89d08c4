use Rattle.yds_model.proofs.Common.{◌≡◌, take, neighbours}
use Rattle.yds_events.proofs.stretch.between.Given as goal

abbrev pub invariant-loop-next : goal.invariant-loop-next
invariant-loop-next l = l.stretches.items ≡ neighbours (take l.next l.times)
