use Rattle.yds_model.proofs.Common.{◌≡◌, ◌-◌, ◌<◌, ◌≤◌, length}
use Rattle.yds_admit.specs.declared.batch.TheConstants.{SHORT_BATCH}
use Rattle.yds_admit.specs.Room.{IsRoom}
use Rattle.yds_admit.specs.State.{IsState}
use Rattle.yds_admit.proofs.decision.one_by_one.Given as goal

abbrev pub invariant-loop-state : goal.invariant-loop-state
invariant-loop-state l = record {
  state : IsState l.board l.state;
  room : IsRoom l.board l.state.jobs.items l.room;
  later : l.fn.state.next ≤ l.state.next;
  begun : l.state.next ≡ l.fn.state.next → l.admitted ≡ 0;
  few : l.admitted < SHORT_BATCH;
}

abbrev pub decreases-loop-state : goal.decreases-loop-state
decreases-loop-state l = length l.board.rows.now - l.state.next
