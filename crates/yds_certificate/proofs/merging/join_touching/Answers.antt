use Rattle.yds_certificate.proofs.Joined.{piece_next, joined_more, joined_all}
use Rattle.yds_certificate.proofs.merging.join_touching.Goals as goal

pub append-requires-clause-forward : goal.append-requires-clause-forward
append-requires-clause-forward c = (piece_next 0 c.args.pieces.now c.loop-piece.piece-index _ c.requires c.loop-piece-test.true c.piece-item.is).0

pub append-requires-clause-after : goal.append-requires-clause-after
append-requires-clause-after c =
    rw (c.loop-piece.invariant.ends) (piece_next 0 c.args.pieces.now c.loop-piece.piece-index _ c.requires c.loop-piece-test.true c.piece-item.is).1

pub loop-piece-preserved : goal.loop-piece-preserved
loop-piece-preserved c =
    joined_more c.args.pieces.now c.loop-piece.piece-index _ _ _ c.loop-piece-test.true c.piece-item.is c.loop-piece.invariant c.in_ok-append.ensures

pub returns : goal.returns
returns c = joined_all c.args.pieces.now _ c.loop-piece.piece-index c.loop-piece-test.false c.loop-piece.invariant
