use Rattle.yds_model.proofs.Common.{Each, IsNotFaster}
use Rattle.yds_checker.proofs.falling.first_faster.Given as goal

abbrev pub invariant-loop-i : goal.invariant-loop-i
invariant-loop-i l = Each l.i (IsNotFaster l.levels)
