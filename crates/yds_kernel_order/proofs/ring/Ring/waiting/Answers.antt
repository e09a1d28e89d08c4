use Rattle.base.proofs.Common.{◌+◌, sym}
use Rattle.yds_kernel_order.proofs.Places.{length-held_from}
use Rattle.yds_kernel_order.proofs.ring.Ring.waiting.Goals as goal

pub returns : goal.returns
returns c = rw (← c.self.view_is) (sym (length-held_from c.self.inside.slots.items (c.self.inside.first + c.self.inside.given) c.self.inside.waiting))
