use Rattle.yds_model.proofs.Common.{IfSome}
use Rattle.yds_critical.specs.Choice.{TakesTime, IsFoundAmong}
use Rattle.yds_critical.proofs.search.best_from.Given as goal

abbrev pub invariant-loop-sum : goal.invariant-loop-sum
invariant-loop-sum l = IsFoundAmong l.sum-index l.fn.best l.start l.sums l.found × IfSome l.found TakesTime
