use Rattle.base.proofs.Common.{◌≡◌, ℕ, ◌+◌, ◌∙◌, sym, ap, arith, get_or}
use Rattle.std.proofs.lemmas.List.{get_or_read_under}
use Rattle.yds_kernel_order.specs.declared.ring.TheConstants.{SLOTS}
use Rattle.yds_kernel_order.specs.Ring.{no_line, slot_at}
use Rattle.yds_kernel_order.proofs.Holding.{first_waits}
use Rattle.yds_kernel_order.proofs.Places.{wrapped_within}
use Rattle.yds_kernel_order.proofs.ring.Ring.next.Goals as goal

pub returns-else-self-eq0 : goal.returns-else-self-eq0
returns-else-self-eq0 c =
    let ring = c.self.inside in
    let kept = c.self.invariant in
    let first = first_waits ring.slots.items ring.first ring.given ring.waiting kept.1 kept.2 (omega (arith, kept.3)) (omega (arith, c.if-self-eq0.false)) in
    let within = wrapped_within (ring.first + ring.given) (omega (arith, kept.1, kept.2)) in
    let same : c.index.result.now ≡ slot_at ring.slots.items (ring.first + ring.given) =
    get_or_read_under ring.slots.items c.wrapped.result SLOTS c.index.result.now no_line c.index.ensures (omega (arith, c.wrapped.ensures, within)) (sym kept.0 ∙ ring.slots.ok.0)
    ∙ ap (λ (n : ℕ). get_or ring.slots.items n no_line) c.wrapped.ensures in
    rw (← c.self.view_is, same) (record { behind = _; is = first })
