use Rattle.base.proofs.Common.{◌∙◌, ◌==◌, true, List, reverse, sym, ap}
use Rattle.yds_trace.specs.declared.job.Stretch.{Stretch}
use Rattle.yds_trace.specs.Views.{asked_read, job_read}
use Rattle.yds_trace.proofs.Shares.{filter_reverse, share_made, with_stretches}
use Rattle.yds_trace.proofs.share.share.Goals as goal

pub returns-then-is_shared_by : goal.returns-then-is_shared_by
returns-then-is_shared_by c =
    ap (λ (stretches : List Stretch). with_stretches (job_read c.args.job.now) stretches true)
    (ap reverse c.keep_on.ensures ∙ sym (filter_reverse (λ (stretch : Stretch). stretch.processor == c.args.asked.now.processor) c.args.job.now.stretches.items))
    ∙ share_made (asked_read c.args.asked.now) (job_read c.args.job.now) c.if-asked.true (sym c.is_shared_by.ensures ∙ c.if-is_shared_by.true)
