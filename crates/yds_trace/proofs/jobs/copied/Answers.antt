use Rattle.base.proofs.Common.{arith}
use Rattle.yds_trace.specs.Views.{job_read}
use Rattle.yds_trace.proofs.Copying.{copied_more}
use Rattle.yds_trace.proofs.jobs.copied.Goals as goal

pub loop-job-preserved : goal.loop-job-preserved
loop-job-preserved c =
    copied_more job_read c.args.jobs.now c.loop-job.all.items _ _ c.job-item.result c.loop-job.job-index (omega arith) c.in_ok-push.ensures.items c.job-item.is
    c.in_ok-copied.ensures c.loop-job.invariant
