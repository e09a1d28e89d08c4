use Rattle.yds_model.proofs.Common.{◌∷◌, ◌≡◌, ℕ, ◌++◌, [], List, ◌<◌, length, get_or, ◌∙◌, take, drop, sym, subst, ap, arith, get_or_default, append-nil, drop_all, length-take-le, Job, no_job, job_at, IsPermutation-append_left}
use Rattle.yds_admit.specs.Board.{IsMarked}
use Rattle.yds_admit.specs.State.{Decided}
use Rattle.yds_admit.proofs.Deciding.{takes_first}
use Rattle.yds_admit.proofs.state.State.admit_until.Goals as goal

pub loop-number-preserved : goal.loop-number-preserved
loop-number-preserved c =
    let rows = c.args.board.now.rows.now in
    let row : Job = get_or rows c.loop-number.number c.index-board-number.result in
    let below : c.loop-number.number < length rows = omega (arith, c.loop-number-test.true, c.requires.within) in
    let is : row ≡ job_at rows c.loop-number.number = get_or_default rows c.loop-number.number c.index-board-number.result no_job below in
    let first = takes_first rows c.args.board.now.top c.loop-number.number c.args.last c.loop-number.self.taken.items c.loop-number.self.jobs.items c.loop-number.self.refused.items
    _ c.requires.state.on.some_top c.loop-number-test.true c.requires.within c.loop-number.invariant.decided c.loop-number.invariant.whole c.requires.room row is (c.requires.state.on.are c.loop-number.number c.index-board-number.result below) in
    record {
      decided = rw (c.in_ok-push.ensures.items, c.in_ok-push-2.ensures.items) first.0;
      same = rw (c.in_ok-push-2.ensures.items, c.in_ok-push-3.ensures.items) (IsPermutation-append_left (row ∷ []) c.loop-number.self.jobs.items c.loop-number.self.nearly_sorted.items c.loop-number.invariant.same);
      whole = rw c.in_ok-push-2.ensures.items first.1;
    }

pub returns-clause-state : goal.returns-clause-state
returns-clause-state c =
    let rows = c.args.board.now.rows.now in
    let last : ℕ = c.args.last in
    let state = c.loop-number.self in
    let held = c.loop-number.invariant in
    let e : c.loop-number.number ≡ last = omega (arith, c.loop-number-test.false, c.loop-number.auto.number-end, c.requires.order) in
    let none : drop c.loop-number.number (take last rows) ≡ [] =
    drop_all c.loop-number.number (take last rows) (omega (arith, e, length-take-le last rows c.requires.within)) in
    let whole = sym (append-nil state.jobs.items) ∙ ap (λ (some : List Job). state.jobs.items ++ some) (sym none) ∙ held.whole in
    record {
      on = c.requires.state.on;
      within = c.requires.within;
      decided = subst (λ (n : ℕ). Decided rows c.args.board.now.top n state.taken.items state.jobs.items state.refused.items) e held.decided;
      marked = subst (λ (jobs : List Job). IsMarked rows last c.args.marks.items jobs) (sym whole) c.requires.marks;
      same = held.same;
    }
