use Rattle.yds_model.proofs.Common.{take}
use Rattle.yds_checker.specs.Placed.{PlacesMore}
use Rattle.yds_checker.proofs.placed.place.Given as goal

abbrev pub invariant-loop-piece : goal.invariant-loop-piece
invariant-loop-piece l = PlacesMore l.initial.placed.items l.placed.items (take l.piece-index l.pieces) l.level
