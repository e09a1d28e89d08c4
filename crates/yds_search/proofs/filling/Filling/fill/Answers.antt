use Rattle.yds_model.proofs.Common.{◌*◌, ◌<◌, ◌∙◌, length, map, sym, arith, get_or-map, length-map}
use Rattle.yds_events.specs.Window.{no_window}
use Rattle.yds_search.specs.Own.{own_windows, window_of, wants_at, rooms_at}
use Rattle.yds_search.proofs.Filled.{no_own}
use Rattle.yds_search.specs.Cells.{first_cell}
use Rattle.yds_search.proofs.Fills.{next_begins}
use Rattle.yds_search.proofs.Reaches.{fill_begins, fill_served, fill_late, fill_is, late_next}
use Rattle.yds_search.proofs.filling.Filling.fill.Goals as goal
use Rattle.yds_search.proofs.filling.Filling.fill.Goals.{then-left-gt0, else-left-gt0}

pub loop-job-init : goal.loop-job-init
loop-job-init c = record {
  filling = rw (c.begin.ensures.late, c.in_ok-begin.ensures.shares, c.in_ok-begin.ensures.cells) (fill_begins c.args.own.now.jobs.now c.args.own.now.stretches.now c.args.speed.per_time c.args.speed.per_work);
  next = rw c.in_ok-begin.ensures.cells (next_begins _ _ (length c.args.own.now.stretches.now)
      (length-map (map (first_cell c.args.speed.per_time (length c.args.own.now.stretches.now)) c.args.own.now.stretches.now) (λ cell. cell.room)
      ∙ length-map c.args.own.now.stretches.now (first_cell c.args.speed.per_time (length c.args.own.now.stretches.now)))
      c.in_ok-begin.ensures.next);
}

pub set_late-requires-clause-within : goal.set_late-requires-clause-within
set_late-requires-clause-within c = omega (
  arith,
  (c.requires.windows c.loop-job.job no_own c.loop-job-test.true).1,
  c.in_ok-left.ensures.count,
  c.loop-job.invariant.filling.filling.same_rooms,
  length-map c.loop-job.self.cells.items (λ cell. cell.room),
  length-map c.args.own.now.stretches.now (λ own. c.args.speed.per_time * own.length),
)

pub loop-job-preserved : goal.loop-job-preserved
loop-job-preserved c =
    let jobs = c.args.own.now.jobs.now in
    let job = c.loop-job.job in
    let wants = wants_at c.args.speed.per_work jobs in
    let rooms = rooms_at c.args.speed.per_time c.args.own.now.stretches.now in
    let so_far = c.loop-job.invariant.filling in
    let within : job < length wants = omega (arith, c.loop-job-test.true, length-map jobs (λ own. c.args.speed.per_work * own.work)) in
    let served = rw (c.from.ensures, sym (get_or-map (λ own. c.args.speed.per_work * own.work) jobs job no_own 0 c.loop-job-test.true)) at
    (c.in_ok-left.ensures.served so_far.shares (rw so_far.filling.same_rooms so_far.filling.taken) so_far.filling.later) in
    elim c.if-left-gt0.branch [
      | then-left-gt0 w ↦
          let range = c.requires.windows job no_own c.loop-job-test.true in
          rw (w.self-is, w.set_late.ensures.late, w.set_late.ensures.cells, w.set_late.ensures.next, w.set_late.ensures.shares) record {
            filling = fill_late (own_windows jobs) wants rooms job c.loop-job.self.late _ _ _ _ _ within so_far served
                _ (get_or-map window_of jobs job no_own no_window c.loop-job-test.true) range.0 (omega (arith, range.1, length-map c.args.own.now.stretches.now (λ own. c.args.speed.per_time * own.length)))
                w.if-left-gt0.true;
            next = late_next _ _ _ _ c.in_ok-left.ensures.next;
          }
      | else-left-gt0 w ↦ rw (w.self-is, c.in_ok-left.ensures.late) record {
        filling = fill_served (own_windows jobs) wants rooms job c.loop-job.self.late _ _ _ _ _ within so_far served
            (omega (arith, w.if-left-gt0.false));
        next = c.in_ok-left.ensures.next;
      }
    ]

pub returns : goal.returns
returns c =
    let jobs = c.args.own.now.jobs.now in
    fill_is (omega (arith, c.loop-job-test.false, c.loop-job.auto, length-map jobs window_of)) (omega (arith, c.loop-job-test.false, c.loop-job.auto, length-map jobs (λ own. c.args.speed.per_work * own.work)))
    c.loop-job.invariant.filling
