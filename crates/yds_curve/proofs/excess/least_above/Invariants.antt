use Rattle.yds_model.proofs.Common.{◌≡◌, ◌*◌, ◌-◌, ◌≤◌, take, sum_by}
use Rattle.base.specs.declared.limits.TheConstants.{MAX_LEVEL_WORK}
use Rattle.yds_curve.proofs.excess.least_above.Given as goal

abbrev pub invariant-loop-level : goal.invariant-loop-level
invariant-loop-level l = record {
  parts : l.parts ≡ sum_by (λ level. l.threshold.den * level.work - l.threshold.num * level.length) (take l.level-index l.level-items);
  few : l.parts ≤ l.threshold.den * (l.level-index * MAX_LEVEL_WORK);
}
