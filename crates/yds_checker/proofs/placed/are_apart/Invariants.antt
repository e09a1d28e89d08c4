use Rattle.yds_checker.proofs.Apart.{Walked}
use Rattle.yds_checker.proofs.placed.are_apart.Given as goal

abbrev pub invariant-loop-piece : goal.invariant-loop-piece
invariant-loop-piece l = Walked l.placed l.levels l.end l.piece-index
