use Rattle.yds_model.proofs.Common.{◌≡◌, ◌*◌, ◌≤◌, take, released_work}
use Rattle.base.specs.declared.limits.TheConstants.{MAX_WORK}
use Rattle.yds_admit.proofs.interval.released_before.Given as goal

abbrev pub invariant-loop-number : goal.invariant-loop-number
invariant-loop-number l = record {
  sum : l.work ≡ released_work (take l.number l.by_deadline) l.from;
  few : l.work ≤ l.number * MAX_WORK;
}
