use Rattle.yds_model.proofs.Common.{rules, length, IsNonDecreasingBy-from_sort_by_key}
use Rattle.yds_checker.specs.declared.placed.Placed.{Placed}
use Rattle.yds_checker.proofs.Placing.{sorted_placed}
use Rattle.yds_checker.proofs.placed.placed_pieces.Goals as goal

pub returns-clause-placed : goal.returns-clause-placed
returns-clause-placed c =
    sorted_placed c.args.levels.now (length c.args.levels.now) c.in_ok-placed.placed.items c.sort_by_key.new.self.items c.in_ok-placed.ensures
    c.in_ok-sort_by_key.ensures.permutation

pub returns-clause-rising : goal.returns-clause-rising
returns-clause-rising c =
    IsNonDecreasingBy-from_sort_by_key (λ (piece : Placed). piece.from) c.sort_by_key.new.self.items c.in_ok-sort_by_key.ensures.sorted
    (λ a r q k. search rules)
