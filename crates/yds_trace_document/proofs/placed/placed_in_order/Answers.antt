use Rattle.base.proofs.Common.{◌∙◌, map, ap, sym, rules, IsNonDecreasingBy-from_sort_by_key, answers_always}
use Rattle.yds_trace.specs.Document.{Placed, in_order}
use Rattle.yds_trace_document.specs.declared.placed.Placed.{Placed as PlacedKept}
use Rattle.yds_trace_document.specs.Views.{placed_read}
use Rattle.yds_trace_document.proofs.Sorting.{stably_sorted, in_order_map}
use Rattle.yds_trace_document.proofs.placed.placed_in_order.Goals as goal

pub returns : goal.returns
returns c =
    ap (map placed_read) (stably_sorted (λ (placed : PlacedKept). placed.run.from) c.in_ok-placed.placed.items c.sort_by_key.new.self.items
    (IsNonDecreasingBy-from_sort_by_key (λ (placed : PlacedKept). placed.run.from) c.sort_by_key.new.self.items c.in_ok-sort_by_key.ensures.sorted (λ a r f k. search rules))
    (c.in_ok-sort_by_key.ensures.stable (λ (placed : PlacedKept). placed.run.from) (answers_always _ _ _ (λ f a r f' k. search rules))))
    ∙ sym (in_order_map placed_read (λ (placed : Placed). placed.run.from) c.in_ok-placed.placed.items)
    ∙ ap (in_order (λ (placed : Placed). placed.run.from)) c.in_ok-placed.ensures
