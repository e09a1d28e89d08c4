use Rattle.yds_model.proofs.Common.{rules, IsNonDecreasingBy-from_sort_by_key}
use Rattle.yds_edf.specs.DueOrder.{place_in_order}
use Rattle.yds_edf.proofs.due_order.by_deadline.Goals as goal

pub returns-clause-rising : goal.returns-clause-rising
returns-clause-rising c = IsNonDecreasingBy-from_sort_by_key place_in_order _ c.sort_unstable_by_key.ensures.sorted (λ a r f k. search rules)
