use Rattle.yds_critical.proofs.Searching.{IsBestAmong}
use Rattle.yds_critical.proofs.search.critical.Given as goal

abbrev pub invariant-loop-row : goal.invariant-loop-row
invariant-loop-row l = IsBestAmong l.row-index l.rows l.best
