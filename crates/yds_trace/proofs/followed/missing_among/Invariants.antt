use Rattle.base.proofs.Common.{◌≡◌, drop}
use Rattle.yds_trace.specs.Following.{missing_among}
use Rattle.yds_trace.proofs.followed.missing_among.Given as goal

abbrev pub invariant-loop-number : goal.invariant-loop-number
invariant-loop-number l = l.missing ≡ missing_among l.wakes l.first l.second l.leaving l.number (drop l.number l.tasks)
