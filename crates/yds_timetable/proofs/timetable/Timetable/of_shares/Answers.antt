use Rattle.yds_model.proofs.Common.{ℕ, List, length, ◌∙◌, sym, ap₂, subst}
use Rattle.yds_timetable.specs.declared.pace.Pace.{Pace}
use Rattle.yds_timetable.specs.declared.timetable.KeptRow.{KeptRow}
use Rattle.yds_timetable.specs.KeptRows.{rows_kept, AreKept}
use Rattle.yds_timetable.specs.Sorted.{AreSorted}
use Rattle.yds_timetable.proofs.Made.{rows_read, rows_keep}
use Rattle.yds_timetable.proofs.timetable.Timetable.of_shares.Goals as goal
use Rattle.yds_timetable.proofs.timetable.Timetable.of_shares.Goals.{In_ok-rows}

sorted : (c : In_ok-rows) → AreSorted c.args.shares.now (length c.args.timeline.now) c.deref.result.now c.in_ok-shares.shares.items
sorted c = subst (λ (ends : List ℕ). AreSorted c.args.shares.now (length c.args.timeline.now) ends c.in_ok-shares.shares.items) (sym c.deref.ensures.value)
    c.in_ok-shares.ensures

pub invariant_of-result : goal.invariant_of-result
invariant_of-result c =
    let here = (goal.at.invariant_of-result c).In_ok-rows in
    subst (λ (paces : List Pace). AreKept paces c.in_ok-shares.shares.items c.in_ok-rows.rows.items) (sym c.in_ok-paces.ensures.items)
    (subst (λ (rows : List KeptRow). AreKept c.args.paces.now c.in_ok-shares.shares.items rows) (sym c.in_ok-rows.ensures)
    (rows_keep c.args.timeline.now c.args.paces.now c.args.places.now c.deref.result.now c.args.shares.now c.in_ok-shares.shares.items (sorted here) c.requires.rows))

pub returns : goal.returns
returns c =
    let here = (goal.at.returns c).In_ok-rows in
    ap₂ (λ (paces : List Pace) (rows : List KeptRow). rows_kept paces c.in_ok-shares.shares.items rows) c.in_ok-paces.ensures.items c.in_ok-rows.ensures
    ∙ rows_read c.args.timeline.now c.args.paces.now c.args.places.now c.deref.result.now c.args.shares.now c.in_ok-shares.shares.items (sorted here)
