use Rattle.yds_model.proofs.Common.{◌≡◌, ◌+◌, ◌≤◌}
use Rattle.yds_admit.specs.Pieces.{went}
use Rattle.yds_admit.proofs.Bounds.{AllLeaveRoom}
use Rattle.yds_admit.proofs.pieces.least_from_pieces.Given as goal

abbrev pub invariant-loop-count : goal.invariant-loop-count
invariant-loop-count l = record {
  from : l.until ≤ l.count;
  within : l.count ≤ l.initial.count;
  wanted : l.wanted ≡ l.row.work + went l.count l.pieces.jobs l.pieces.places.items l.end;
  leaves : AllLeaveRoom l.board.top l.pieces.jobs l.pieces.places.items l.row l.end l.count l.initial.count;
}

abbrev pub decreases-loop-count : goal.decreases-loop-count
decreases-loop-count l = l.count
