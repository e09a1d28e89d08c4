use Rattle.yds_model.proofs.Common.{◌≡◌, ◌∙◌, length, refl, false≢true}
use Rattle.yds_certificate.proofs.Extended.{pushed, extended, apart_from}
use Rattle.yds_certificate.proofs.merging.append.Goals as goal

pub returns : goal.returns
returns c =
    rw (c.in_ok-push.ensures.items, ← c.piece.view_is)
    (pushed c.args.joined.now.items _ c.requires.separate
    (apart_from c.args.joined.now.items _ (rw (← c.piece.view_is) at c.requires.after)
    (λ touches. false≢true (c.if-touches.ensures.1 (rw (c.deref.ensures.value, ← c.piece.view_is) touches))))
    (rw (← c.piece.view_is) at c.requires.forward) c.piece.invariant)

pub returns-then-touches : goal.returns-then-touches
returns-then-touches c =
    let last : c.len-place.result ≡ length c.args.joined.now.items = c.len-place.ensures ∙ c.args.joined.now.ok.0 in
    rw (last, ← c.piece.view_is)
    (extended c.args.joined.now.items _ _ c.requires.separate (rw (← c.deref.ensures.value, c.piece.view_is) (c.if-touches.ensures.0 refl))
    (rw (← c.last.view_is, last) at c.index_mut-last.ensures.value) (rw (← c.piece.view_is) at c.requires.forward) c.last.invariant c.piece.invariant)
