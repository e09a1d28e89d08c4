use Rattle.yds_model.proofs.Common.{◌≡◌, take, take_all, IsForward}
use Rattle.yds_checker.proofs.Placing.{none_placed, next_placed}
use Rattle.yds_checker.proofs.placed.place.Goals as goal

pub loop-piece-init : goal.loop-piece-init
loop-piece-init c = none_placed c.args.placed.now.items c.args.level

pub loop-piece-preserved : goal.loop-piece-preserved
loop-piece-preserved c =
    let forward : IsForward c.piece-item.result = rw (← c.piece-item.is) at (c.requires c.loop-piece.piece-index c.piece-item.result c.loop-piece-test.true) in
    let more = next_placed c.args.level c.args.placed.now.items c.loop-piece.placed.items c.args.pieces.now c.loop-piece.piece-index c.piece-item.result
    c.loop-piece-test.true c.piece-item.is forward c.loop-piece.invariant in
    rw c.in_ok-push.ensures.items (rw (← c.piece.view_is) at more)

pub returns : goal.returns
returns c =
    let all : take c.loop-piece.piece-index c.args.pieces.now ≡ c.args.pieces.now = take_all c.loop-piece.piece-index c.args.pieces.now c.loop-piece-test.false in
    rw all at c.loop-piece.invariant
