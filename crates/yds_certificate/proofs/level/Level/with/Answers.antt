use Rattle.yds_model.proofs.Common.{refl}
use Rattle.yds_certificate.proofs.Together.{sorted_pieces, together, few_together}
use Rattle.yds_certificate.proofs.level.Level.with.Goals as goal

pub join_touching-requires : goal.join_touching-requires
join_touching-requires c =
    rw (c.deref-3.ensures.value)
    (sorted_pieces c.self.inside.pieces.items c.other.inside.pieces.items c.in_ok-pieces.pieces.items
    (rw (← c.self.view_is) at c.requires.orderly).pieces (rw (← c.other.view_is) at c.requires.other_orderly).pieces
    (rw (← c.self.view_is, ← c.other.view_is) at c.requires.apart).apart
    (rw (← c.deref.ensures.value, ← c.deref-2.ensures.value) c.in_ok-pieces.ensures.same) c.in_ok-pieces.ensures.rising)

pub returns-clause-together : goal.returns-clause-together
returns-clause-together c =
    rw (← c.self.view_is, ← c.other.view_is)
    (together _ _ _ c.in_ok-pieces.pieces.items (rw (← c.self.view_is) at c.requires.orderly) (rw (← c.other.view_is) at c.requires.other_orderly)
    (rw (← c.self.view_is, ← c.other.view_is) at c.requires.apart) refl refl
    (rw (← c.deref.ensures.value, ← c.deref-2.ensures.value) c.in_ok-pieces.ensures.same)
    (rw (← c.deref-3.ensures.value) c.in_ok-join_touching.ensures)
    (rw (← c.deref-4.ensures.value, ← c.deref-5.ensures.value) c.in_ok-in_order.ensures.same) c.in_ok-in_order.ensures.rising)

pub returns-clause-few_pieces : goal.returns-clause-few_pieces
returns-clause-few_pieces c =
    rw (← c.self.view_is, ← c.other.view_is)
    (few_together c.self.inside.pieces.items c.other.inside.pieces.items c.in_ok-pieces.pieces.items c.in_ok-join_touching.field-0.items
    (rw (← c.deref.ensures.value, ← c.deref-2.ensures.value) c.in_ok-pieces.ensures.same)
    (rw (← c.deref-3.ensures.value) c.in_ok-join_touching.ensures))
