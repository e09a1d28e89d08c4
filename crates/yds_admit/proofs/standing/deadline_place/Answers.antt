use Rattle.yds_model.proofs.Common.{◌≡◌, ℕ, ◌<◌, length, get_or, get_or_default, arith, ap, IsNonDecreasingBy-insert, Job, no_job, job_at}
use Rattle.yds_admit.proofs.standing.deadline_place.Goals as goal

pub returns-clause-rising : goal.returns-clause-rising
returns-clause-rising c =
    let at : (k : ℕ) (d : Job) → k < length c.args.by_deadline.now → (get_or c.args.by_deadline.now k d).deadline ≡ (job_at c.args.by_deadline.now k).deadline =
    λ k d below. ap (λ (job : Job). job.deadline) (get_or_default c.args.by_deadline.now k d no_job below) in
    let deadline = ap (λ (job : Job). job.deadline) c.row.view_is in
    IsNonDecreasingBy-insert (λ (job : Job). job.deadline) c.args.by_deadline.now c.due_before.result c.args.row.now c.requires c.due_before.ensures.within
    (λ k d less. omega (arith, deadline, at k d (omega (arith, less, c.due_before.ensures.within)), c.due_before.ensures.before k less))
    (λ k d after within. omega (arith, deadline, at k d within, c.due_before.ensures.after k after within))
