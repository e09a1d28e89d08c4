use Rattle.yds_model.proofs.Common.{rules, IsNonDecreasingBy-from_sort_by_key, Job}
use Rattle.yds_admit.proofs.interval.sort_by_deadline.Goals as goal

pub returns-clause-rising : goal.returns-clause-rising
returns-clause-rising c =
    IsNonDecreasingBy-from_sort_by_key (λ (job : Job). job.deadline) _ c.in_ok-sort_by_key.ensures.sorted (λ a r f k. (search rules, search rules))
