use Rattle.yds_model.proofs.Common.{◌∙◌, ap, get_or_read, Job, no_job}
use Rattle.yds_admit.proofs.Times.{begun, passed, added, are_times}
use Rattle.yds_admit.proofs.chain.times.Goals as goal
use Rattle.yds_admit.proofs.chain.times.Goals.{then-last-job+in_ok-push-2, else-last-job}

pub loop-job-init : goal.loop-job-init
loop-job-init c = rw (c.in_ok-push.ensures.items, c.new-times.ensures.items) (begun c.args.by_deadline.now)

pub loop-job-preserved : goal.loop-job-preserved
loop-job-preserved c =
    let is = ap (λ (job : Job). job.deadline)
    (c.job.view_is ∙ get_or_read c.args.by_deadline.now c.loop-job.job-index c.job-item.result c.loop-job-test.true c.job-item.is no_job) in
    elim c.if-last-job.branch [
      | then-last-job+in_ok-push-2 w ↦ rw (w.times-is, w.last-is, w.in_ok-push-2.ensures.items)
          (added c.args.by_deadline.now c.loop-job.job-index c.loop-job.times.items c.loop-job.last c.requires c.loop-job-test.true c.loop-job.invariant
          c.job.inside.deadline is w.if-last-job.true)
      | else-last-job w ↦ rw (w.times-is, w.last-is)
          (passed c.args.by_deadline.now c.loop-job.job-index c.loop-job.times.items c.loop-job.last c.requires c.loop-job-test.true c.loop-job.invariant
          c.job.inside.deadline is w.if-last-job.false)
    ]

pub returns : goal.returns
returns c = are_times c.args.by_deadline.now c.loop-job.job-index c.loop-job.times.items c.loop-job.last c.loop-job-test.false c.loop-job.invariant
