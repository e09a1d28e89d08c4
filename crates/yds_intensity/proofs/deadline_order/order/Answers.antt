use Rattle.yds_model.proofs.Common.{◌∙◌, map, ap, rules, take_all, IsNonDecreasingBy-from_sort_by_key, answers_always}
use Rattle.yds_intensity.specs.declared.deadline_order.Due.{Due}
use Rattle.yds_intensity.proofs.Orders.{sorted_order}
use Rattle.yds_intensity.proofs.deadline_order.order.Goals as goal

pub returns : goal.returns
returns c =
    sorted_order c.args.rows.now c.in_ok-dues.dues.items c.sort_by_key.new.self.items c.loop-due.order.items c.in_ok-dues.ensures
    c.in_ok-sort_by_key.ensures.permutation
    (IsNonDecreasingBy-from_sort_by_key (λ (due : Due). due.deadline) c.sort_by_key.new.self.items c.in_ok-sort_by_key.ensures.sorted (λ a r f k. (search rules, search rules)))
    (c.in_ok-sort_by_key.ensures.stable (λ (due : Due). due.deadline) (answers_always _ _ _ (λ f a r f' k. search rules)))
    (c.loop-due.invariant ∙ ap (map (λ (due : Due). due.number)) (take_all c.loop-due.due-index c.deref-due-items.result.now c.loop-due-test.false ∙ c.deref-due-items.ensures.value))
