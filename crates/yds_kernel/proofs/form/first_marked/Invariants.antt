use Rattle.base.proofs.Common.{◌≡◌, ◌-◌, ◌≤◌, length, drop}
use Rattle.yds_kernel.specs.Form.{first_marked}
use Rattle.yds_kernel.proofs.form.first_marked.Given as goal

abbrev pub invariant-loop-step : goal.invariant-loop-step
invariant-loop-step l = record {
  same : first_marked l.place l.mark (drop l.place l.bytes) ≡ first_marked 0 l.mark l.bytes;
  within : l.place ≤ length l.bytes;
}

abbrev pub decreases-loop-step : goal.decreases-loop-step
decreases-loop-step l = length l.bytes - l.place
