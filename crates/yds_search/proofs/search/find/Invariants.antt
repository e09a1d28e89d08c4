use Rattle.yds_model.proofs.Common.{◌*◌, ◌-◌, length}
use Rattle.yds_search.specs.Searching.{IsSearching}
use Rattle.yds_search.proofs.search.find.Given as goal

abbrev pub invariant-loop-size : goal.invariant-loop-size
invariant-loop-size l = IsSearching l.rows l.search

abbrev pub decreases-loop-size : goal.decreases-loop-size
decreases-loop-size l = 2 * length l.search.stack.stretches.items - length l.search.stack.sizes.items
