use Rattle.base.proofs.Common.{◌≡◌, ◌∙◌, ◌-◌, map, ap, sym, rules, IsNonDecreasingBy-from_sort_by_key, answers_always}
use Rattle.yds_kernel.specs.declared.limits.TheConstants.{MAX_U64}
use Rattle.yds_trace.specs.Document.{in_order}
use Rattle.yds_trace_document.proofs.Sorting.{stably_sorted, in_order_map}
use Rattle.yds_trace_threads.specs.declared.kept.Kept.{Kept}
use Rattle.yds_trace_threads.specs.Table.{Row}
use Rattle.yds_trace_threads.specs.Kept.{row_read}
use Rattle.yds_trace_threads.proofs.text.in_order_of_time.Goals as goal

pub returns : goal.returns
returns c =
    let first : c.sort_by_key.new.self.items ≡ in_order (λ (row : Kept). row.pid) c.args.kept.items =
    stably_sorted (λ (row : Kept). row.pid) c.args.kept.items c.sort_by_key.new.self.items
    (IsNonDecreasingBy-from_sort_by_key (λ (row : Kept). row.pid) c.sort_by_key.new.self.items c.in_ok-sort_by_key.ensures.sorted (λ a r f k. search rules))
    (c.in_ok-sort_by_key.ensures.stable (λ (row : Kept). row.pid) (answers_always _ _ _ (λ f a r f' k. search rules))) in
    let second : c.sort_by_key-2.new.self.items ≡ in_order (λ (row : Kept). MAX_U64 - row.ran) c.sort_by_key.new.self.items =
    stably_sorted (λ (row : Kept). MAX_U64 - row.ran) c.sort_by_key.new.self.items c.sort_by_key-2.new.self.items
    (IsNonDecreasingBy-from_sort_by_key (λ (row : Kept). MAX_U64 - row.ran) c.sort_by_key-2.new.self.items c.in_ok-sort_by_key-2.ensures.sorted (λ a r f k. search rules))
    (c.in_ok-sort_by_key-2.ensures.stable (λ (row : Kept). MAX_U64 - row.ran) (answers_always _ _ _ (λ f a r f' k. search rules))) in
    ap (map row_read) (second ∙ ap (in_order (λ (row : Kept). MAX_U64 - row.ran)) first)
    ∙ sym (in_order_map row_read (λ (row : Row). MAX_U64 - row.ran) (in_order (λ (row : Kept). row.pid) c.args.kept.items))
    ∙ ap (in_order (λ (row : Row). MAX_U64 - row.ran)) (sym (in_order_map row_read (λ (row : Row). row.pid) c.args.kept.items))
