use Rattle.base.proofs.Common.{◌≡◌, take, sum_by}
use Rattle.yds_kernel.specs.Parts.{capped}
use Rattle.yds_trace.specs.Following.{stretches_in}
use Rattle.yds_trace.proofs.jobs.count_stretches.Given as goal

abbrev pub invariant-loop-job : goal.invariant-loop-job
invariant-loop-job l = l.count ≡ capped (sum_by stretches_in (take l.job-index l.jobs))
