use Rattle.base.proofs.Common.{◌≡◌, ◌≤◌, length}
use Rattle.yds_kernel.specs.Stamp.{first_stamp}
use Rattle.yds_kernel.proofs.find.first_stamp.Given as goal

abbrev pub invariant-loop-place : goal.invariant-loop-place
invariant-loop-place l = record {
  same : first_stamp l.rest ≡ first_stamp l.line;
  shorter : length l.rest ≤ length l.line;
}

abbrev pub decreases-loop-place : goal.decreases-loop-place
decreases-loop-place l = length l.rest
