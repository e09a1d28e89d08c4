use Rattle.yds_admit.proofs.Deciding.{is_decision}
use Rattle.yds_admit.proofs.decision.decide.Goals as goal

pub returns : goal.returns
returns c =
    let state = c.loop-state.state in
    let held = rw (c.in_ok-board.ensures.rows, c.in_ok-board.ensures.top) at c.loop-state.invariant.decided in
    is_decision c.args.rows.now c.args.top state.next state.taken.items state.jobs.items state.refused.items
    c.loop-state-test.false (rw c.in_ok-board.ensures.rows at c.loop-state.invariant.within) held
