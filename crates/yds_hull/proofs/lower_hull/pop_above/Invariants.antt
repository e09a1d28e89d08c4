use Rattle.yds_model.proofs.Common.{length}
use Rattle.yds_hull.proofs.Ends.{Keeps}
use Rattle.yds_hull.proofs.lower_hull.pop_above.Given as goal

abbrev pub invariant-loop-hull : goal.invariant-loop-hull
invariant-loop-hull l = Keeps l.fn.hull.items l.hull.items l.next

abbrev pub decreases-loop-hull : goal.decreases-loop-hull
decreases-loop-hull l = length l.hull.items
