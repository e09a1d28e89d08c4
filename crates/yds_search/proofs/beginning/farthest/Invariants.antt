use Rattle.yds_search.specs.Beginning.{AreFarthest}
use Rattle.yds_search.proofs.beginning.farthest.Given as goal

abbrev pub invariant-loop-job : goal.invariant-loop-job
invariant-loop-job l = AreFarthest l.rows l.windows l.job l.count l.ends.items
