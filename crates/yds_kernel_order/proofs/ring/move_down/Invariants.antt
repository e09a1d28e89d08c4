use Rattle.base.proofs.Common.{◌≡◌, length}
use Rattle.yds_kernel_order.specs.declared.ring.TheConstants.{SLOTS}
use Rattle.yds_kernel_order.specs.Ring.{IsMovedDown}
use Rattle.yds_kernel_order.proofs.ring.move_down.Given as goal

-- it was put before one more by each round
abbrev pub invariant-loop-moved : goal.invariant-loop-moved
invariant-loop-moved l = (length l.slots ≡ SLOTS) × IsMovedDown l.first l.held l.moved l.fn.slots l.slots
