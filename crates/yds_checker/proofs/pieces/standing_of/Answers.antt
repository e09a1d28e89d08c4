use Rattle.yds_model.proofs.Common.{arith}
use Rattle.yds_checker.specs.Placed.{ArePlaced}
use Rattle.yds_checker.proofs.Placing.{placed_of_front}
use Rattle.yds_checker.proofs.Standing.{front_forward, apart_stand, first_wrong, all_in_run}
use Rattle.yds_checker.proofs.pieces.standing_of.Goals as goal

pub placed_pieces-requires-clause-forward : goal.placed_pieces-requires-clause-forward
placed_pieces-requires-clause-forward c =
    front_forward c.args.levels.now c.levels_ordered-ordered.result c.levels_ordered-ordered.ensures.bound c.levels_ordered-ordered.ensures.before

pub returns-then-apart-levels : goal.returns-then-apart-levels
returns-then-apart-levels c =
    let levels = c.args.levels.now in
    let ordered = c.levels_ordered-ordered in
    let apart = c.levels_apart-apart in
    let placed = c.deref.result.now in
    let are : ArePlaced levels ordered.result placed =
    rw c.deref.ensures.value (placed_of_front levels ordered.result c.in_ok-placed.placed.items ordered.ensures.bound c.in_ok-placed.ensures.placed) in
    first_wrong levels ordered.result apart.result placed ordered.ensures.bound ordered.ensures.before ordered.ensures.first are apart.ensures.bound
    apart.ensures.apart apart.ensures.greatest c.if-apart-levels.true

pub returns : goal.returns
returns c =
    let levels = c.args.levels.now in
    let ordered = c.levels_ordered-ordered in
    let apart = c.levels_apart-apart in
    let placed = c.in_ok-placed.placed.items in
    let are : ArePlaced levels ordered.result placed = placed_of_front levels ordered.result placed ordered.ensures.bound c.in_ok-placed.ensures.placed in
    let once = rw c.deref.ensures.value at apart.ensures.apart in (
      λ i within. apart_stand levels ordered.result apart.result placed ordered.ensures.bound ordered.ensures.before are apart.ensures.bound once i
          (omega (arith, within, c.if-apart-levels.false)),
      all_in_run levels ordered.result apart.result placed ordered.ensures.bound are c.in_ok-placed.ensures.rising apart.ensures.bound once
          c.if-apart-levels.false,
    )
