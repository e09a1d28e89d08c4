use Rattle.base.proofs.Common.{arith}
use Rattle.yds_trace.specs.Document.{share_of}
use Rattle.yds_trace.specs.Views.{asked_read, job_read}
use Rattle.yds_trace.proofs.Shares.{changed_by_places}
use Rattle.yds_trace.proofs.share.share_each.Goals as goal

pub returns : goal.returns
returns c =
    changed_by_places job_read (share_of (asked_read c.args.asked.now)) c.args.jobs.now.items c.loop-number.jobs.items
    (omega (arith, c.loop-number.invariant.many, c.loop-number.jobs.ok.0, c.args.jobs.now.ok.0))
    (λ k d within. c.loop-number.invariant.below k d (omega arith))
