use Rattle.yds_model.proofs.Common.{rules, IsNonDecreasingBy-from_sort_by_key}
use Rattle.yds_edf.specs.declared.due_order.Due.{Due}
use Rattle.yds_edf.proofs.due_order.by_release.Goals as goal

pub returns-clause-rising : goal.returns-clause-rising
returns-clause-rising c = IsNonDecreasingBy-from_sort_by_key (λ (due : Due). due.release) _ c.sort_unstable_by_key.ensures.sorted (λ a r f k. search rules)
