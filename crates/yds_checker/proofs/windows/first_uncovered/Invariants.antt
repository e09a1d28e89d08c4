use Rattle.yds_model.proofs.Common.{List, Each, Level, IsWindowCovered}
use Rattle.yds_checker.specs.Home.{AreSettled}
use Rattle.yds_checker.specs.Standing.{AreInRun}
use Rattle.yds_checker.proofs.windows.first_uncovered.Given as goal

abbrev pub invariant-loop-job : goal.invariant-loop-job
invariant-loop-job l = (levels : List Level) → AreSettled l.rows levels l.homes → AreInRun levels l.run → Each l.job (IsWindowCovered l.rows levels)
