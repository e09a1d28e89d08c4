use Rattle.yds_model.proofs.Common.{◌-◌, ◌≤◌, arith, rules, IsNonDecreasingBy-from_sort_by_key, All-permutation}
use Rattle.base.specs.declared.limits.TheConstants.{MAX_TIME}
use Rattle.yds_admit.specs.declared.board.Spot.{Spot}
use Rattle.yds_admit.proofs.board.falling.Goals as goal

pub returns-clause-falling : goal.returns-clause-falling
returns-clause-falling c i j d order below =
    let few = All-permutation (λ (spot : Spot). spot.release ≤ MAX_TIME) _ _ c.in_ok-sort_by_key.ensures.permutation c.requires in
    let rising = IsNonDecreasingBy-from_sort_by_key (λ (spot : Spot). 4294967295 - spot.release) _ c.in_ok-sort_by_key.ensures.sorted (λ a r f k. (search rules, search rules)) in
    omega (arith, rising i j d order below, few i d (omega (arith, order, below)), few j d below)
