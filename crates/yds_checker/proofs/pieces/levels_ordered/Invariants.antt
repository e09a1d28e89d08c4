use Rattle.yds_model.proofs.Common.{Each, level_at}
use Rattle.yds_checker.specs.Standing.{IsOrdered}
use Rattle.yds_checker.proofs.pieces.levels_ordered.Given as goal

abbrev pub invariant-loop-i : goal.invariant-loop-i
invariant-loop-i l = Each l.i (λ i. IsOrdered (level_at l.levels i))
