use Rattle.yds_model.proofs.Common.{◌≡◌, ◌*◌, ◌≤◌, take, total_length}
use Rattle.base.specs.declared.limits.TheConstants.{MAX_TIME}
use Rattle.yds_checker.proofs.sums.lengths_together.Given as goal

abbrev pub invariant-loop-piece : goal.invariant-loop-piece
invariant-loop-piece l = (l.length ≡ total_length (take l.piece-index l.pieces)) × (l.length ≤ MAX_TIME * l.piece-index)
