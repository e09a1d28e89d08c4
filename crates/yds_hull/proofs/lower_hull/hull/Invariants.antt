use Rattle.yds_hull.proofs.Part.{Grows}
use Rattle.yds_hull.proofs.lower_hull.hull.Given as goal

abbrev pub invariant-loop-point : goal.invariant-loop-point
invariant-loop-point l = Grows l.points l.point-index l.hull.items
