use Rattle.yds_model.proofs.Common.{◌≡◌, ℕ, ◌++◌, ◌∷◌, [], ◌∙◌, List, ap, ap₂, sym, get_or, arith, add-one, Option, nat_lt, then_some, get_or_read, map-range_with_len_more, Piece}
use Rattle.yds_events.specs.Stretch.{no_stretch}
use Rattle.yds_timetable.specs.declared.timetable.KeptRow.{KeptRow}
use Rattle.yds_timetable.specs.Sorted.{kept_row, start_of}
use Rattle.yds_timetable.proofs.timetable.kept_rows.Goals as goal

kept_is : (timeline : List Piece) (paces : ℕ) (places ends : List ℕ) (n : ℕ) (stretch : Piece) (pace : Option ℕ) (first : ℕ) →
    stretch ≡ get_or timeline n no_stretch → pace ≡ then_some (nat_lt (get_or places n 0) paces) (get_or places n 0) → first ≡ start_of ends n →
    record { stretch = stretch; pace = pace; first = first; end = get_or ends n 0 } ≡ kept_row timeline paces places ends n
kept_is timeline paces places ends n stretch pace first same_stretch same_pace same_first = cc

pub loop-number-preserved : goal.loop-number-preserved
loop-number-preserved c =
    let n = c.loop-number.number in
    let stretch = get_or_read c.args.timeline.now n c.index-timeline-number.result c.loop-number-test.true c.index-timeline-number.is no_stretch in
    record {
      rows = c.in_ok-push.ensures.items ∙ ap₂ (λ (rows : List KeptRow) (kept : KeptRow). rows ++ kept ∷ []) c.loop-number.invariant.rows
          (kept_is c.args.timeline.now c.args.paces c.args.places.now c.args.ends.now n _ _ _ stretch c.then_some.ensures c.loop-number.invariant.start)
          ∙ sym (map-range_with_len_more (kept_row c.args.timeline.now c.args.paces c.args.places.now c.args.ends.now) 0 n n (omega arith));
      start = sym (ap (start_of c.args.ends.now) (add-one n));
    }
