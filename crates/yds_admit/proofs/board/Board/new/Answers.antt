use Rattle.yds_model.proofs.Common.{List, ℕ, subst, IsPermutation-sym, IsPermutation-trans, IsPermutation-map, All-permutation, Job}
use Rattle.yds_admit.specs.declared.board.Spot.{Spot}
use Rattle.yds_admit.specs.Board.{IsSpot, AreEnds, AreGaps, AreSpots}
use Rattle.yds_admit.specs.Chain.{AreTimes}
use Rattle.yds_admit.proofs.Times.{same_times}
use Rattle.yds_admit.proofs.board.Board.new.Goals as goal

pub ends-requires : goal.ends-requires
ends-requires c =
    rw c.deref-3.ensures.value
    (same_times 0 c.args.rows.now c.sort_by_deadline.new.jobs.items c.in_ok-times.times.items
    (IsPermutation-sym c.args.rows.now c.sort_by_deadline.new.jobs.items (rw c.in_ok-by_deadline.ensures.items at c.in_ok-sort_by_deadline.ensures.same))
    (subst (λ (jobs : List Job). AreTimes 0 jobs c.in_ok-times.times.items) c.deref.ensures.value c.in_ok-times.ensures))

pub spots-requires-clause-times : goal.spots-requires-clause-times
spots-requires-clause-times c =
    rw c.deref-4.ensures.value
    (same_times 0 c.args.rows.now c.sort_by_deadline.new.jobs.items c.in_ok-times.times.items
    (IsPermutation-sym c.args.rows.now c.sort_by_deadline.new.jobs.items (rw c.in_ok-by_deadline.ensures.items at c.in_ok-sort_by_deadline.ensures.same))
    (subst (λ (jobs : List Job). AreTimes 0 jobs c.in_ok-times.times.items) c.deref.ensures.value c.in_ok-times.ensures))

pub returns-clause-board : goal.returns-clause-board
returns-clause-board c =
    let rows = c.args.rows.now in
    let times = c.in_ok-times.times.items in
    let spots = subst (λ (some : List ℕ). AreSpots rows some c.in_ok-spots.field-0.items) c.deref-4.ensures.value c.in_ok-spots.ensures in
    record {
      few = c.requires.few;
      some_top = c.requires.some_top;
      top_in_range = c.requires.top_in_range;
      are = c.in_ok-ends.ensures.jobs;
      are_times = same_times 0 rows c.sort_by_deadline.new.jobs.items times
          (IsPermutation-sym rows c.sort_by_deadline.new.jobs.items (rw c.in_ok-by_deadline.ensures.items at c.in_ok-sort_by_deadline.ensures.same))
          (subst (λ (jobs : List Job). AreTimes 0 jobs times) c.deref.ensures.value c.in_ok-times.ensures);
      are_gaps = subst (λ (some : List ℕ). AreGaps c.args.top some c.in_ok-gaps.gaps.items) c.deref-2.ensures.value
          (record { as_long = c.in_ok-gaps.ensures.as_long; each = c.in_ok-gaps.ensures.each });
      are_ends = subst (λ (some : List ℕ). AreEnds rows some c.in_ok-ends.ends.items) c.deref-3.ensures.value c.in_ok-ends.ensures.ends;
      are_spots = record {
        same = IsPermutation-trans _ _ _ spots.same (IsPermutation-map (λ (spot : Spot). spot.number) _ _ c.in_ok-spots-2.ensures.same);
        each = All-permutation (IsSpot rows times) _ _ c.in_ok-spots-2.ensures.same spots.each;
      };
      falling = c.in_ok-spots-2.ensures.falling;
    }
