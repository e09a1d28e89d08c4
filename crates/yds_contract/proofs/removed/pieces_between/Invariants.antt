use Rattle.base.specs.declared.limits.TheConstants.{MAX_TIME}
use Rattle.yds_contract.specs.Removed.{removed_stretches}
use Rattle.yds_contract.proofs.RemovedStretches.{Walked}
use Rattle.yds_contract.proofs.removed.pieces_between.Given as goal

abbrev pub invariant-loop-stretch : goal.invariant-loop-stretch
invariant-loop-stretch l = Walked MAX_TIME l.start l.end (removed_stretches l.removed) l.stretch-index l.from l.before l.pieces.items
