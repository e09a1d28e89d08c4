use Rattle.base.proofs.Common.{◌∙◌, ap, arith, length, map}
use Rattle.yds_trace.specs.Jobs.{lost_job}
use Rattle.yds_trace.specs.Views.{jobs_listed}
use Rattle.yds_trace.proofs.Listed.{lost_none, lost_more, kept_whole, lost_all}
use Rattle.yds_trace.proofs.jobs.lose_all.Goals as goal

pub loop-job-init : goal.loop-job-init
loop-job-init c = lost_none c.args.time c.deref_mut-job-items.result.now

pub loop-job-preserved : goal.loop-job-preserved
loop-job-preserved c =
    lost_more c.args.time c.loop-job.job-index c.deref_mut-job-items.result.now c.loop-job.job-items c.job-item.result c.lost-job.result
    (omega arith) c.loop-job.invariant c.lost-job.ensures

pub returns : goal.returns
returns c =
    ap jobs_listed (kept_whole c.args.jobs.now.len c.loop-job.job-items c.args.jobs.now.items
    (omega (arith, c.loop-job.invariant.same_length, ap length c.deref_mut-job-items.ensures.value)) (omega arith))
    ∙ lost_all c.args.time c.loop-job.job-index c.deref_mut-job-items.result.now c.loop-job.job-items (omega arith) c.loop-job.invariant
    ∙ ap (λ jobs. map (lost_job c.args.time) (jobs_listed jobs)) c.deref_mut-job-items.ensures.value
