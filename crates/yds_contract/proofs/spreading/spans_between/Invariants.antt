use Rattle.yds_model.proofs.Common.{◌*◌, map}
use Rattle.base.specs.declared.limits.TheConstants.{MAX_TIME}
use Rattle.yds_contract.specs.Removed.{removed_stretches}
use Rattle.yds_contract.specs.Spread.{piece_in_parts}
use Rattle.yds_contract.proofs.RemovedStretches.{Walked}
use Rattle.yds_contract.proofs.spreading.spans_between.Given as goal

abbrev pub invariant-loop-stretch : goal.invariant-loop-stretch
invariant-loop-stretch l = Walked (MAX_TIME * l.parts) l.start l.end (map (piece_in_parts l.parts) (removed_stretches l.removed)) l.stretch-index l.from l.before l.spans.items
