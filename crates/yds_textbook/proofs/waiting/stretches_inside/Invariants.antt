use Rattle.yds_model.proofs.Common.{◌≡◌, filter, range_with_len}
use Rattle.yds_textbook.specs.Waiting.{stretch_lies_in}
use Rattle.yds_textbook.proofs.waiting.stretches_inside.Given as goal

abbrev pub invariant-loop-number : goal.invariant-loop-number
invariant-loop-number l = l.numbers.items ≡ filter (stretch_lies_in l.timeline l.taken l.interval) (range_with_len 0 l.number)
