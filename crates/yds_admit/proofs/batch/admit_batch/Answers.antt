use Rattle.yds_model.proofs.Common.{◌+◌, ◌++◌, take, drop, List, Bool, sym, arith, subst, Job}
use Rattle.yds_admit.specs.declared.state.State.{State}
use Rattle.yds_admit.specs.Board.{IsMarked, AreMarked}
use Rattle.yds_admit.specs.State.{IsState}
use Rattle.yds_admit.proofs.batch.admit_batch.Goals as goal

pub fit-requires-clause-marks : goal.fit-requires-clause-marks
fit-requires-clause-marks c =
    let board = c.args.board.now in
    let state = c.loop-count.state in
    let is = subst (λ (one : State). IsState board one) (sym c.loop-count.invariant.same) c.requires in
    let marked = c.in_ok-marks.ensures board.rows.now state.jobs.items (subst (λ (marks : List Bool). IsMarked board.rows.now state.next marks state.jobs.items) (sym c.deref.ensures.value) is.marked) in
    omega (arith, marked.as_long, c.deref-in-loop-count.ensures.len, c.in_ok-marks.marks.ok.0)

pub admit_until-requires-clause-marks : goal.admit_until-requires-clause-marks
admit_until-requires-clause-marks c =
    let board = c.args.board.now in
    let state = c.loop-count.state in
    let is = subst (λ (one : State). IsState board one) (sym c.loop-count.invariant.same) c.requires in
    c.in_ok-marks.ensures board.rows.now state.jobs.items (subst (λ (marks : List Bool). IsMarked board.rows.now state.next marks state.jobs.items) (sym c.deref.ensures.value) is.marked)

pub admit_until-requires-clause-room : goal.admit_until-requires-clause-room
admit_until-requires-clause-room c =
    let board = c.args.board.now in
    let state = c.loop-count.state in
    let is = subst (λ (one : State). IsState board one) (sym c.loop-count.invariant.same) c.requires in
    let marked = c.in_ok-marks.ensures board.rows.now state.jobs.items (subst (λ (marks : List Bool). IsMarked board.rows.now state.next marks state.jobs.items) (sym c.deref.ensures.value) is.marked) in
    let run : List Job = drop state.next (take (state.next + c.loop-count.count) board.rows.now) in
    c.in_ok-fit.ensures c.if-branch.true (state.jobs.items ++ run)
    (subst (λ (marks : List Bool). AreMarked board.rows.now marks (state.jobs.items ++ run)) (sym c.deref-in-loop-count.ensures.value) marked.marked)
