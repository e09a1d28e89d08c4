use Rattle.yds_model.proofs.Common.{◌≡◌, ◌-◌, ◌+◌, ◌≤◌, ◌∙◌, length, arith, ◌↔◌, IsTrue, get_or_read}
use Rattle.yds_checker.specs.Heights.{no_placed, placed_at, AreRaised, AreWithin}
use Rattle.yds_checker.proofs.Turns.{heights_tell}
use Rattle.yds_checker.proofs.pieces_in_turn.PiecesInTurn.are_joined.Goals as goal

pub returns-then-index-level : goal.returns-then-index-level
returns-then-index-level c =
    let placed = c.self.inside.placed.items in
    let nodes = c.self.inside.nodes.items in
    let first = c.args.first in
    let end = c.args.end in
    let size : c.len-leaves.result ≡ length placed = c.len-leaves.ensures ∙ c.self.inside.placed.ok.0 in
    let bound : end ≤ length placed = rw (← c.self.view_is) at c.requires.within in
    let read : c.index.result.now ≡ placed_at placed (end - 1) =
    get_or_read placed (end - 1) c.index.result.now (omega (arith, c.requires.some, bound)) c.index.ensures no_placed in
    let last : (placed_at placed (end - 1)).level ≤ c.args.level = rw read at c.if-index-level.true in
    let raised : AreRaised c.deref.result.now (length placed) = rw c.deref.ensures.value c.self.invariant.heights.raised in
    let law : IsTrue c.are_within.result ↔ AreWithin nodes (length placed + first) (length placed + end - 1) c.args.level =
    rw (c.deref.ensures.value, size) at (c.are_within.ensures (length placed) raised) in
    rw (← c.self.view_is) (λ low.
    let tells = heights_tell placed nodes c.args.level first end c.self.invariant.heights c.requires.some bound low last in
    (λ so. tells.0 (law.0 so), λ joined. law.1 (tells.1 joined)))
