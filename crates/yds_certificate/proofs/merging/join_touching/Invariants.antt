use Rattle.yds_model.proofs.Common.{take}
use Rattle.yds_certificate.specs.Merging.{IsJoined}
use Rattle.yds_certificate.proofs.merging.join_touching.Given as goal

abbrev pub invariant-loop-piece : goal.invariant-loop-piece
invariant-loop-piece l = IsJoined (take l.piece-index l.pieces) l.joined.items
