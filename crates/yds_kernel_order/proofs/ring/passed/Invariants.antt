use Rattle.base.proofs.Common.{◌≤◌}
use Rattle.yds_kernel_order.specs.declared.limits.TheConstants.{MAX_PASSED}
use Rattle.yds_kernel_order.proofs.Passing.{HasPassed}
use Rattle.yds_kernel_order.proofs.ring.passed.Given as goal

-- the event is put before the lines that were looked at
abbrev pub invariant-loop-count : goal.invariant-loop-count
invariant-loop-count l = (l.count ≤ MAX_PASSED) × HasPassed l.slots l.first l.held l.time l.count
