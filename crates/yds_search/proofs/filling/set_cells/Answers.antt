use Rattle.yds_model.proofs.Common.{◌∙◌, length, sym, arith, take_at, same_lists, get_or_default, length-map}
use Rattle.yds_search.specs.Cells.{no_cell, first_cell}
use Rattle.yds_search.proofs.filling.set_cells.Goals as goal

pub returns : goal.returns
returns c =
    let cells = c.loop-place.cell-items in
    let count = c.loop-place.invariant.count ∙ sym (length-map c.args.stretches.now (first_cell c.args.per_time (length c.args.stretches.now))) in
    take_at cells _ _ (c.loop-place.auto.cell-items ∙ c.deref_mut-cell-items.ensures.len) ∙ same_lists cells _ count (λ k d within.
    get_or_default cells k d no_cell within ∙ c.loop-place.invariant.done k (omega (arith, within, c.loop-place.auto.cell-items, c.loop-place-test.false))
    ∙ get_or_default _ k no_cell d (omega (arith, within, count)))
