use Rattle.yds_model.proofs.Common.{rules, IsNonDecreasingBy-from_sort_by_key, Piece}
use Rattle.yds_certificate.proofs.merging.by_start.Goals as goal

pub returns-clause-rising : goal.returns-clause-rising
returns-clause-rising c =
    IsNonDecreasingBy-from_sort_by_key (λ (piece : Piece). piece.from) _ c.in_ok-sort_by_key.ensures.sorted (λ a r f k. (search rules, search rules))
