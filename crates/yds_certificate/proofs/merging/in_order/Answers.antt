use Rattle.yds_model.proofs.Common.{ℕ, IsNonDecreasingBy-from_sort}
use Rattle.yds_certificate.proofs.merging.in_order.Goals as goal

pub returns-clause-rising : goal.returns-clause-rising
returns-clause-rising c = IsNonDecreasingBy-from_sort (λ (n : ℕ). n) _ c.in_ok-sort.ensures.sorted
