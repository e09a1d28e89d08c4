use Rattle.yds_model.proofs.Common.{ℕ, ◌<◌, ◌≤◌, length, take, job_at}
use Rattle.yds_admit.specs.Board.{falling_jobs}
use Rattle.yds_admit.specs.Chain.{AreLinks}
use Rattle.yds_admit.specs.Pieces.{IsCutting, AreCut}
use Rattle.yds_admit.proofs.Fitting.{spot_at}
use Rattle.yds_admit.proofs.pieces.cut_each.Given as goal

abbrev pub invariant-loop-spot : goal.invariant-loop-spot
invariant-loop-spot l = record {
  cutting : IsCutting l.board.top l.board.times.items l.pieces.jobs l.pieces.places.items l.rest;
  links : AreLinks l.rest l.links;
  made : AreCut (falling_jobs l.board.rows.now l.marks (take l.spot-index l.board.spots.items)) l.pieces.jobs;
  later : (k : ℕ) → l.spot-index ≤ k → k < length l.board.spots.items → (i : ℕ) → i < length l.pieces.jobs →
      (spot_at l.board.spots.items k).release ≤ (job_at l.pieces.jobs i).release;
}
