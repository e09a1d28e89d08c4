use Rattle.yds_model.proofs.Common.{◌≡◌, ◌-◌, arith, false≢true, get_or_read}
use Rattle.yds_checker.specs.Heights.{no_placed, placed_at}
use Rattle.yds_checker.proofs.Turns.{Around, around_found, joined_cover, cover_joined}
use Rattle.yds_checker.proofs.pieces_in_turn.PiecesInTurn.covers.Goals as goal
use Rattle.yds_checker.proofs.pieces_in_turn.PiecesInTurn.covers.Goals.{then-end-first-via-then-end-first, then-end-first-via-else-end-first+then-from-index, then-end-first-via-else-end-first+else-from-index+then-index-to}

pub returns-then-end-first : goal.returns-then-end-first
returns-then-end-first c =
    let placed = c.self.inside.placed.items in
    let first = c.ended_by-first.result in
    let end = c.begun_before-end.result in
    let around : Around placed c.args.from c.args.to first end =
    around_found placed c.args.from c.args.to first end (rw c.deref-2.ensures.value at c.begun_before-end.ensures.bound)
    (rw c.deref.ensures.value at c.ended_by-first.ensures.place) (rw c.deref-2.ensures.value at c.begun_before-end.ensures.place) in
    rw (← c.self.view_is) (λ low. (
      λ no. absurd (false≢true no),
      λ covers.
          let found = cover_joined placed c.args.level c.args.from c.args.to first end c.self.invariant.in_turn around c.requires covers in
          let some = found.some in
          let bound = around.bound in
          absurd (elim c.then-end-first.branch [
            | then-end-first-via-then-end-first w ↦ omega (arith, w.if-end-first.true, some)
            | then-end-first-via-else-end-first+then-from-index w ↦
                let read : w.index.result.now ≡ placed_at placed first =
                get_or_read placed first w.index.result.now (omega (arith, some, bound)) w.index.ensures no_placed in
                omega (arith, rw read at w.if-from-index.true, found.begun)
            | then-end-first-via-else-end-first+else-from-index+then-index-to w ↦
                let read : w.index-else-from-index.result.now ≡ placed_at placed (end - 1) =
                get_or_read placed (end - 1) w.index-else-from-index.result.now (omega (arith, some, bound)) w.index-else-from-index.ensures no_placed in
                omega (arith, rw read at w.if-index-to.true, found.ends)
          ]),
    ))

pub returns : goal.returns
returns c =
    let placed = c.self.inside.placed.items in
    let first = c.ended_by-first.result in
    let end = c.begun_before-end.result in
    let around : Around placed c.args.from c.args.to first end =
    around_found placed c.args.from c.args.to first end (rw c.deref-2.ensures.value at c.begun_before-end.ensures.bound)
    (rw c.deref.ensures.value at c.ended_by-first.ensures.place) (rw c.deref-2.ensures.value at c.begun_before-end.ensures.place) in
    let bound = around.bound in
    let some = c.if-end-first.false in
    let begun : c.index.result.now ≡ placed_at placed first =
    get_or_read placed first c.index.result.now (omega (arith, some, bound)) c.index.ensures no_placed in
    let ends : c.index-else-from-index.result.now ≡ placed_at placed (end - 1) =
    get_or_read placed (end - 1) c.index-else-from-index.result.now (omega (arith, some, bound)) c.index-else-from-index.ensures no_placed in
    rw (← c.self.view_is) (λ low.
    let law = rw (← c.self.view_is) at (c.are_joined.ensures low) in (
      λ so.
          joined_cover placed c.args.level c.args.from c.args.to first end some bound (rw begun at c.if-from-index.false)
          (rw ends at c.if-index-to.false) (law.0 so),
      λ covers. law.1 (cover_joined placed c.args.level c.args.from c.args.to first end c.self.invariant.in_turn around c.requires covers).joined,
    ))
