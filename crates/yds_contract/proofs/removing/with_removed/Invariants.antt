use Rattle.yds_contract.specs.Removed.{removed_stretches}
use Rattle.yds_contract.proofs.Joining.{Joining}
use Rattle.yds_contract.proofs.removing.with_removed.Given as goal

abbrev pub invariant-loop-stretch : goal.invariant-loop-stretch
invariant-loop-stretch l = Joining l.fn.start l.fn.end (removed_stretches l.removed) l.stretch-index l.from l.to l.changed.items
