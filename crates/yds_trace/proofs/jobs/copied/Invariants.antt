use Rattle.base.proofs.Common.{◌≡◌, map, take}
use Rattle.yds_trace.specs.Views.{job_read}
use Rattle.yds_trace.proofs.jobs.copied.Given as goal

abbrev pub invariant-loop-job : goal.invariant-loop-job
invariant-loop-job l = map job_read l.all.items ≡ map job_read (take l.job-index l.jobs)
