use Rattle.yds_model.proofs.Common.{rules, IsNonDecreasingBy-from_sort_by_key}
use Rattle.yds_avr.proofs.roster.by_release.Goals as goal

pub returns-clause-rising : goal.returns-clause-rising
returns-clause-rising c = IsNonDecreasingBy-from_sort_by_key (λ rate. rate.release) _ c.in_ok-sort_by_key.ensures.sorted (λ a r f k. search rules)
