use Rattle.yds_model.proofs.Common.{◌≡◌, ℕ, ◌+◌, ◌≤◌, ◌⊎◌, List, length}
use Rattle.yds_admit.specs.Chain.{IsPlace, AreLinks, AreEmpty}
use Rattle.yds_admit.specs.Pieces.{IsCutting}
use Rattle.yds_admit.proofs.Cutting.{IsCutSoFar}
use Rattle.yds_admit.proofs.pieces.cut.Given as goal

abbrev pub invariant-loop-left : goal.invariant-loop-left
invariant-loop-left l = record {
  cutting : (top : ℕ) (times : List ℕ) → length l.fn.gaps + 1 ≡ length times → IsPlace times l.job.deadline l.end →
      IsCutting top times l.fn.pieces.jobs l.fn.pieces.places.items l.fn.gaps → IsCutting top times l.pieces.jobs l.pieces.places.items l.gaps;
  links : AreLinks l.gaps l.links;
  within : l.place ≤ l.end;
  empty : (1 ≤ l.left) ⊎ (l.job.work ≡ 0) → AreEmpty l.gaps l.place l.end;
  into : IsCutSoFar l.job l.fn.pieces.jobs l.pieces.jobs l.left;
}

abbrev pub decreases-loop-left : goal.decreases-loop-left
decreases-loop-left l = l.place
