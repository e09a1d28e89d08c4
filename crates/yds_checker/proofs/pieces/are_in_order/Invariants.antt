use Rattle.yds_model.proofs.Common.{drop, ◌↔◌, PiecesFrom}
use Rattle.yds_checker.proofs.pieces.are_in_order.Given as goal

abbrev pub invariant-loop-piece : goal.invariant-loop-piece
invariant-loop-piece l = PiecesFrom l.end (drop l.piece-index l.pieces) ↔ PiecesFrom 0 l.pieces
