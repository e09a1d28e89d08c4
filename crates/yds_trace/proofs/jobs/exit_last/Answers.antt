use Rattle.base.proofs.Common.{ap, vec_len, ◌-◌, arith, refl}
use Rattle.yds_trace.specs.declared.job.Job.{Job as JobKept}
use Rattle.yds_trace.specs.Jobs.{exits}
use Rattle.yds_trace.specs.Views.{job_read}
use Rattle.yds_trace.proofs.Listed.{changed_at_end}
use Rattle.yds_trace.proofs.jobs.exit_last.Goals as goal

pub returns-in-Some : goal.returns-in-Some
returns-in-Some c =
    changed_at_end (exits c.args.time) c.args.jobs.now.items (vec_len c.args.jobs.now - 1) _ c.in-Some.job.now
    (omega (arith, c.in-Some.ensures.variant.0 refl, c.args.jobs.now.ok.0))
    (ap (λ (job : JobKept). exits c.args.time (job_read job)) c.in-Some.ensures.value)
