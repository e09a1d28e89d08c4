use Rattle.base.proofs.Common.{◌∙◌, ◌-◌, map, ap, sym, rules, IsNonDecreasingBy-from_sort_by_key, answers_always}
use Rattle.yds_kernel.specs.declared.limits.TheConstants.{MAX_U64}
use Rattle.yds_trace_document.proofs.Sorting.{stably_sorted, in_order_map}
use Rattle.yds_trace_text.specs.declared.left_out.Group.{Group as GroupKept}
use Rattle.yds_trace_text.specs.Text.{Group}
use Rattle.yds_trace_text.specs.Views.{group_read}
use Rattle.yds_trace_text.proofs.left_out.in_order_of_counts.Goals as goal

pub returns : goal.returns
returns c =
    ap (map group_read) (stably_sorted (λ (group : GroupKept). MAX_U64 - group.count) c.args.groups.items c.sort_by_key.new.self.items
    (IsNonDecreasingBy-from_sort_by_key (λ (group : GroupKept). MAX_U64 - group.count) c.sort_by_key.new.self.items c.in_ok-sort_by_key.ensures.sorted (λ a r f k. search rules))
    (c.in_ok-sort_by_key.ensures.stable (λ (group : GroupKept). MAX_U64 - group.count) (answers_always _ _ _ (λ f a r f' k. search rules))))
    ∙ sym (in_order_map group_read (λ (group : Group). MAX_U64 - group.count) c.args.groups.items)
