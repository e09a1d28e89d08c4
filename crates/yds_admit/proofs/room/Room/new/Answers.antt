use Rattle.yds_model.proofs.Common.{IsPermutation-trans}
use Rattle.yds_admit.proofs.Left.{left_has_idle, left_bounds, left_used, left_exact}
use Rattle.yds_admit.proofs.room.Room.new.Goals as goal

pub returns-clause-room : goal.returns-clause-room
returns-clause-room c =
    let board = c.args.board.now in
    let state = c.args.state.now in
    let pieces = c.in_ok-pieces.pieces in
    let idle = c.in_ok-pieces.idle.items in
    let cut = rw c.deref.ensures.value at c.in_ok-pieces.ensures.cut in
    let long = rw c.deref-2.ensures.value at c.in_ok-pieces-2.ensures.as_long in
    let each = rw (c.deref-2.ensures.value, c.deref-3.ensures.value) at c.in_ok-pieces-2.ensures.each in
    record {
      has_idle = left_has_idle board state c.requires pieces.jobs pieces.places.items idle c.in_ok-pieces.ensures.cutting cut c.in_ok-pieces.ensures.as_long;
      links = c.in_ok-pieces.ensures.links;
      bounds = left_bounds board state c.requires pieces.jobs pieces.places.items idle c.in_ok-pieces.ensures.cutting cut c.in_ok-pieces.ensures.as_long;
      used = left_used board state c.requires pieces.jobs pieces.places.items idle c.in_ok-pieces.ensures.cutting cut c.in_ok-pieces.ensures.as_long
          c.in_ok-pieces-2.field-0.items long each;
      ordered = record {
        deadlines = rw (c.in_ok-from_slice.ensures, c.deref-4.ensures.value) (IsPermutation-trans state.jobs.items state.nearly_sorted.items c.sort_by_deadline.new.jobs.items c.requires.same c.in_ok-sort_by_deadline.ensures.same);
        rising = rw (c.in_ok-from_slice.ensures, c.deref-4.ensures.value) c.in_ok-sort_by_deadline.ensures.rising;
      };
      exact = λ fresh. left_exact board state c.requires pieces.jobs pieces.places.items idle c.in_ok-pieces.ensures.cutting cut c.in_ok-pieces.ensures.as_long;
    }

pub returns-clause-state : goal.returns-clause-state
returns-clause-state c =
    let is = c.requires in
    record {
      on = is.on;
      within = is.within;
      decided = is.decided;
      marked = is.marked;
      same = IsPermutation-trans c.args.state.now.jobs.items c.args.state.now.nearly_sorted.items c.sort_by_deadline.new.jobs.items is.same c.in_ok-sort_by_deadline.ensures.same;
    }
