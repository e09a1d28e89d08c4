use Rattle.yds_model.proofs.Common.{◌≡◌, ◌*◌, ◌≤◌, take, map, sum_by, break_at}
use Rattle.base.specs.declared.limits.TheConstants.{MAX_LEVEL_WORK, MAX_LEVEL_LENGTH}
use Rattle.yds_curve.proofs.bends.curve.Given as goal

abbrev pub invariant-loop-level : goal.invariant-loop-level
invariant-loop-level l = record {
  work : l.work ≡ sum_by (λ level. level.work) (take l.level-index l.levels);
  length : l.length ≡ sum_by (λ level. level.length) (take l.level-index l.levels);
  work_fits : l.work ≤ l.level-index * MAX_LEVEL_WORK;
  length_fits : l.length ≤ l.level-index * MAX_LEVEL_LENGTH;
  breaks : l.breaks.items ≡ map (λ level. break_at l.levels level.work level.length) (take l.level-index l.levels);
}
