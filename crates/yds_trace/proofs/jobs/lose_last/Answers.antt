use Rattle.base.proofs.Common.{◌∙◌, ap, vec_len, ◌-◌, arith, refl}
use Rattle.yds_trace.specs.declared.job.End.{End}
use Rattle.yds_trace.specs.declared.job.Job.{Job as JobKept}
use Rattle.yds_trace.specs.Jobs.{lost_job}
use Rattle.yds_trace.specs.Views.{job_read}
use Rattle.yds_trace.proofs.Listed.{changed_at_end}
use Rattle.yds_trace.proofs.jobs.lose_last.Goals as goal

pub returns-in-Some : goal.returns-in-Some
returns-in-Some c =
    changed_at_end (lost_job c.args.time) c.args.jobs.now.items (vec_len c.args.jobs.now - 1) _ c.in-Some.job.now
    (omega (arith, c.in-Some.ensures.variant.0 refl, c.args.jobs.now.ok.0))
    (ap (λ (end : End). job_read (record c.in-Some.job.now { end = end })) c.lost-job.ensures
    ∙ ap (λ (job : JobKept). lost_job c.args.time (job_read job)) c.in-Some.ensures.value)
