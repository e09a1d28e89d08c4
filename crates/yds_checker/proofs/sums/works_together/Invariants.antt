use Rattle.yds_model.proofs.Common.{◌≡◌, ◌*◌, ◌≤◌, take, work_of}
use Rattle.base.specs.declared.limits.TheConstants.{MAX_WORK}
use Rattle.yds_checker.proofs.sums.works_together.Given as goal

abbrev pub invariant-loop-job : goal.invariant-loop-job
invariant-loop-job l = (l.work ≡ work_of l.rows (take l.job-index l.members)) × (l.work ≤ MAX_WORK * l.job-index)
