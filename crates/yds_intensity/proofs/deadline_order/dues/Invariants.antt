use Rattle.yds_model.proofs.Common.{◌≡◌, map, range_with_len}
use Rattle.yds_intensity.specs.Due.{due_of}
use Rattle.yds_intensity.proofs.deadline_order.dues.Given as goal

abbrev pub invariant-loop-number : goal.invariant-loop-number
invariant-loop-number l = l.dues.items ≡ map (due_of l.rows) (range_with_len 0 l.number)
