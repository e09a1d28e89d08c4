use Rattle.base.proofs.Common.{◌≤◌, ◌∙◌, sym}
use Rattle.yds_kernel_order.specs.declared.limits.TheConstants.{MAX_PASSED}
use Rattle.yds_kernel_order.proofs.Holding.{loss_places, waiting_len}
use Rattle.yds_kernel_order.proofs.ring.Ring.place_loss.Goals as goal

pub returns : goal.returns
returns c =
    let ring = c.self.inside in
    let kept = c.self.invariant in
    let room : ring.waiting ≤ MAX_PASSED = waiting_len ring.slots.items ring.first ring.given ring.waiting _ c.self.view_is c.requires in
    rw (← c.self.view_is, c.set_loss.ensures, c.wrapped-place.ensures)
    (loss_places ring.slots.items ring.first ring.given ring.waiting c.args.number c.args.processor c.args.since kept.1 kept.2 room (sym ring.slots.ok.0 ∙ kept.0))
