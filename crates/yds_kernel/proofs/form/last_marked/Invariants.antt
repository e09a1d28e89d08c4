use Rattle.base.proofs.Common.{◌≡◌, ◌≤◌, length, drop, None}
use Rattle.yds_kernel.specs.Form.{last_marked}
use Rattle.yds_kernel.proofs.form.last_marked.Given as goal

abbrev pub invariant-loop-place : goal.invariant-loop-place
invariant-loop-place l = record {
  none : last_marked l.place l.mark (drop l.place l.bytes) ≡ None;
  within : l.place ≤ length l.bytes;
}

abbrev pub decreases-loop-place : goal.decreases-loop-place
decreases-loop-place l = l.place
