use Rattle.base.proofs.Common.{◌≡◌, vec_len}
use Rattle.yds_kernel_order.proofs.ring.Ring.new.Given as goal

-- a place was made by each round
abbrev pub invariant-loop-count : goal.invariant-loop-count
invariant-loop-count l = vec_len l.slots ≡ l._count
