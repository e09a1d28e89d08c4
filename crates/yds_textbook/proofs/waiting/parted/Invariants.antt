use Rattle.yds_model.proofs.Common.{◌≡◌, take}
use Rattle.yds_textbook.specs.Waiting.{inside, outside}
use Rattle.yds_textbook.proofs.waiting.parted.Given as goal

abbrev pub invariant-loop-number : goal.invariant-loop-number
invariant-loop-number l = record {
  members : l.members.items ≡ inside l.rows l.taken l.interval (take l.number-index l.waiting);
  others : l.others.items ≡ outside l.rows l.taken l.interval (take l.number-index l.waiting);
}
