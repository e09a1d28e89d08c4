use Rattle.yds_model.proofs.Common.{◌≡◌, ℕ, ◌<◌, List, length, get_or, take, ◌∙◌, sym, subst, arith, ap, Job, no_job, job_at, get_or_default}
use Rattle.yds_admit.specs.declared.board.Spot.{Spot}
use Rattle.yds_admit.specs.Board.{IsSpot, falling_jobs}
use Rattle.yds_admit.specs.Pieces.{IsCutting, IsCutInto, AreCut}
use Rattle.yds_admit.proofs.Links.{own_are}
use Rattle.yds_admit.proofs.Cutting.{none_cut}
use Rattle.yds_admit.proofs.Fitting.{no_spot, spot_at}
use Rattle.yds_admit.proofs.Made.{falling_more, falling_same, none_made, one_made, none_before}
use Rattle.yds_admit.proofs.Idleness.{lent}
use Rattle.yds_admit.proofs.pieces.cut_each.Goals as goal

pub loop-spot-init : goal.loop-spot-init
loop-spot-init c =
    let board = c.args.board.now in
    let gaps = c.requires.board.are_gaps in
    record {
      cutting = rw (c.in_ok-with_capacity.ensures, c.in_ok-with_capacity-2.ensures.items, c.as_mut_slice-rest.ensures.value, c.in_ok-left.ensures.items, c.deref.ensures.value)
          (none_cut board.top board.times.items board.gaps.items gaps);
      links = rw (c.as_mut_slice-rest.ensures.value, c.in_ok-left.ensures.items, c.deref.ensures.value, c.as_mut_slice-links.ensures.value, c.in_ok-last.ensures)
          (own_are board.gaps.items c.len.result (omega (arith, gaps.as_long, c.len.ensures)));
      made = rw c.in_ok-with_capacity.ensures none_made;
      later = rw c.in_ok-with_capacity.ensures (λ k from below i less. absurd (omega (arith, less)));
    }

pub loop-spot-preserved : goal.loop-spot-preserved
loop-spot-preserved c =
    let board = c.args.board.now in
    let valid = c.requires.board in
    let rows = board.rows.now in
    let times = board.times.items in
    let spots = board.spots.items in
    let n : ℕ = c.loop-spot.spot-index in
    let held = c.loop-spot.invariant in
    let old = c.loop-spot.pieces.jobs in
    let new = c.cut.new.pieces.jobs in
    let below : n < length spots = omega (arith, c.loop-spot-test.true, c.deref-spot-items.ensures.len) in
    let spot : Spot = spot_at spots n in
    let here : IsSpot rows times spot = valid.are_spots.each n no_spot below in
    let job : Job = job_at rows spot.number in
    let is : get_or rows spot.number c.index-board-spot.result ≡ job = get_or_default rows spot.number c.index-board-spot.result no_job here.known in
    let into = subst (λ (one : Job). IsCutInto one old new) is (rw c.deref-spot-items.ensures.value at c.in_ok-cut.ensures.into) in
    let cutting = rw c.deref-spot-items.ensures.value at c.in_ok-cut.ensures.cutting in
    let deadline = here.deadline ∙ sym (ap (λ (one : Job). one.deadline) is) in
    record {
      cutting = cutting board.top times
          (omega (
            arith,
            valid.are_gaps.as_long,
            c.loop-spot.auto.rest,
            ap (λ (some : List ℕ). length some) (c.as_mut_slice-rest.ensures.value ∙ c.in_ok-left.ensures.items ∙ c.deref.ensures.value),
          ))
          (record {
            before = λ q less. omega (arith, here.earlier q less, deadline);
            after = λ q from within. omega (arith, valid.are_times.rising spot.end q 0 from within, deadline);
          })
          held.cutting;
      links = c.in_ok-cut.ensures.links;
      made = subst (λ (some : List Job). AreCut some new) (sym (falling_more rows c.args.marks.now spots n below (rw c.deref-spot-items.ensures.value at c.if-not-marks-spot.false)))
          (one_made job old new into (falling_jobs rows c.args.marks.now (take n spots)) held.made
          (λ i less. omega (arith, held.later n (omega arith) below i less, here.release)));
      later = λ k from within. none_before job old new into (spot_at spots k).release (omega (arith, valid.falling n k no_spot (omega (arith, from)) within, here.release))
          (held.later k (omega (arith, from)) within);
    }

pub loop-spot-preserved-then-not-marks-spot : goal.loop-spot-preserved-then-not-marks-spot
loop-spot-preserved-then-not-marks-spot c =
    let board = c.args.board.now in
    let spots = board.spots.items in
    let n : ℕ = c.loop-spot.spot-index in
    let held = c.loop-spot.invariant in
    let below : n < length spots = omega (arith, c.loop-spot-test.true, c.deref-spot-items.ensures.len) in
    record {
      cutting = held.cutting;
      links = held.links;
      made = subst (λ (some : List Job). AreCut some c.loop-spot.pieces.jobs)
          (sym (falling_same board.rows.now c.args.marks.now spots n below (rw c.deref-spot-items.ensures.value at c.if-not-marks-spot.true))) held.made;
      later = λ k from. held.later k (omega (arith, from));
    }

pub returns-clause-cutting : goal.returns-clause-cutting
returns-clause-cutting c =
    let board = c.args.board.now in
    let left = c.in_ok-left.left in
    let whole = lent left.len left.items c.loop-spot.rest left.ok.0
    (omega (arith, c.loop-spot.auto.rest, ap (λ (some : List ℕ). length some) c.as_mut_slice-rest.ensures.value)) in
    subst (IsCutting board.top board.times.items c.loop-spot.pieces.jobs c.loop-spot.pieces.places.items) (sym whole) c.loop-spot.invariant.cutting

pub returns-clause-links : goal.returns-clause-links
returns-clause-links c =
    let left = c.in_ok-left.left in
    let last = c.in_ok-last.last in
    rw (
      lent left.len left.items c.loop-spot.rest left.ok.0
          (omega (arith, c.loop-spot.auto.rest, ap (λ (some : List ℕ). length some) c.as_mut_slice-rest.ensures.value)),
      lent last.len last.items c.loop-spot.links last.ok.0
          (omega (arith, c.loop-spot.auto.links, ap (λ (some : List ℕ). length some) c.as_mut_slice-links.ensures.value)),
    ) c.loop-spot.invariant.links
