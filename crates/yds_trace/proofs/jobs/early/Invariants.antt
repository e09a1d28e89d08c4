use Rattle.base.proofs.Common.{◌<◌, take, All}
use Rattle.yds_trace.specs.declared.job.Job.{Job as JobKept}
use Rattle.yds_trace.proofs.jobs.early.Given as goal

abbrev pub invariant-loop-index : goal.invariant-loop-index
invariant-loop-index l = All (λ (job : JobKept). job.begin < l.boundary) (take l.index l.jobs)
