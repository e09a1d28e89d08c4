use Rattle.yds_model.proofs.Common.{Each, SumsAgree}
use Rattle.yds_checker.proofs.sums.first_wrong_sums.Given as goal

abbrev pub invariant-loop-i : goal.invariant-loop-i
invariant-loop-i l = Each l.i (SumsAgree l.rows l.levels)
