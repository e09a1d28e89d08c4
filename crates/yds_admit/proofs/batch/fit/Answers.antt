use Rattle.yds_model.proofs.Common.{◌≡◌, ℕ, ◌-◌, ◌*◌, ◌<◌, ◌≤◌, refl, List, length, get_or, subst, arith}
use Rattle.yds_admit.specs.declared.board.Spot.{Spot}
use Rattle.yds_admit.specs.Board.{if_marked}
use Rattle.yds_admit.specs.Chain.{Takes}
use Rattle.yds_admit.proofs.Fitting.{spot_at, walks, has_room}
use Rattle.yds_admit.proofs.batch.fit.Goals as goal

pub loop-spot-preserved : goal.loop-spot-preserved
loop-spot-preserved c =
    let board = c.args.board.now in
    let valid = c.requires.board in
    let n = c.loop-spot.spot-index in
    let before = c.loop-spot.gaps in
    let after = c.finds_room.new.gaps in
    record {
      walking = walks board valid c.args.marks.now (length board.times.items - 1) (omega (arith, valid.are_times.some)) n (omega (arith, c.loop-spot-test.true, c.deref-spot-items.ensures.len))
          before after c.loop-spot.invariant.walking
          (subst (λ (spots : List Spot). Takes before (spot_at spots n).end (if_marked c.args.marks.now (λ k. (spot_at spots n).work) (spot_at spots n).number) after 0 0)
          c.deref-spot-items.ensures.value (c.if-not-finds_room.ensures.takes refl))
          (subst (λ (spots : List Spot). (q : ℕ) → q < (spot_at spots n).begin → get_or after q 0 ≡ get_or before q 0) c.deref-spot-items.ensures.value c.finds_room.ensures.kept)
          (subst (λ (spots : List Spot). board.top * ((spot_at spots n).release - get_or board.times.items (spot_at spots n).begin 0) ≤ get_or after (spot_at spots n).begin 0)
          c.deref-spot-items.ensures.value (c.if-not-finds_room.ensures.room refl));
      links = c.finds_room.ensures.links;
    }

pub returns : goal.returns
returns c it jobs marked =
    let board = c.args.board.now in
    let valid = c.requires.board in
    has_room board valid c.args.marks.now (length board.times.items - 1) (omega (arith, valid.are_times.some)) jobs marked c.loop-spot.spot-index
    (omega (arith, c.loop-spot-test.false, c.deref-spot-items.ensures.len)) c.loop-spot.invariant.walking.holds
