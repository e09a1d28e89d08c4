use Rattle.yds_checker.proofs.Placing.{AreGathered}
use Rattle.yds_checker.proofs.placed.gathered.Given as goal

abbrev pub invariant-loop-i : goal.invariant-loop-i
invariant-loop-i l = AreGathered l.levels l.i l.placed.items
