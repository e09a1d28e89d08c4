use Rattle.yds_admit.proofs.Between.{Counted}
use Rattle.yds_admit.proofs.interval.overfull_from.Given as goal

abbrev pub invariant-loop-number : goal.invariant-loop-number
invariant-loop-number l = Counted l.top l.by_deadline l.row l.from l.work l.to l.number
