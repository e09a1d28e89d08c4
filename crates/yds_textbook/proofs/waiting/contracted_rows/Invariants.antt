use Rattle.yds_model.proofs.Common.{◌≡◌, take}
use Rattle.yds_textbook.specs.Waiting.{contracted_jobs}
use Rattle.yds_textbook.proofs.waiting.contracted_rows.Given as goal

abbrev pub invariant-loop-number : goal.invariant-loop-number
invariant-loop-number l = l.left.items ≡ contracted_jobs l.rows l.taken (take l.number-index l.numbers)
