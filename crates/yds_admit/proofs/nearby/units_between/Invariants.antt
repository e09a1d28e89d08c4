use Rattle.yds_model.proofs.Common.{◌≡◌, ◌+◌}
use Rattle.yds_admit.specs.Pieces.{went}
use Rattle.yds_admit.proofs.nearby.units_between.Given as goal

abbrev pub invariant-loop-number : goal.invariant-loop-number
invariant-loop-number l = record {
  sum : l.units + went l.first l.pieces.jobs l.pieces.places.items l.end ≡ went l.number l.pieces.jobs l.pieces.places.items l.end;
}
