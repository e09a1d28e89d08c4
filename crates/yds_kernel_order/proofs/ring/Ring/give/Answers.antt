use Rattle.base.proofs.Common.{arith}
use Rattle.yds_kernel_order.proofs.Holding.{first_given}
use Rattle.yds_kernel_order.proofs.ring.Ring.give.Goals as goal

pub returns : goal.returns
returns c =
    let ring = c.self.inside in
    let kept = c.self.invariant in
    rw (← c.self.view_is, c.wrapped-self-inside.ensures)
    (first_given ring.slots.items ring.first ring.given ring.waiting kept.1 kept.2 (omega (arith, kept.3)) (omega (arith, c.if-self-eq0.false)))
