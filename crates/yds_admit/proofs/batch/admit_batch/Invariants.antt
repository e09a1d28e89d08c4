use Rattle.yds_model.proofs.Common.{◌≡◌, ◌+◌, ◌≤◌, length}
use Rattle.yds_admit.proofs.batch.admit_batch.Given as goal

abbrev pub invariant-loop-count : goal.invariant-loop-count
invariant-loop-count l = record {
  same : l.state ≡ l.initial.state;
  within : l.state.next + l.count ≤ length l.board.rows.now;
}

abbrev pub decreases-loop-count : goal.decreases-loop-count
decreases-loop-count l = l.count
