use Rattle.yds_model.proofs.Common.{◌≡◌, ℕ, ◌∷◌, [], ◌++◌, get_or, ◌∙◌, sym, subst, arith, inl, inr, ap, All, cases_lt, get_or_read, get_or_append_left, get_or_push, length_push, take_all, All-more, Job, IsJob, no_job, job_at}
use Rattle.yds_admit.specs.Chain.{IsPlace, IsEnd}
use Rattle.yds_admit.proofs.Times.{place_known, time_there}
use Rattle.yds_admit.proofs.board.ends.Goals as goal

pub loop-row-preserved : goal.loop-row-preserved
loop-row-preserved c =
    let rows = c.args.rows.now in
    let times = c.args.times.now in
    let i : ℕ = c.loop-row.row-index in
    let ends = c.loop-row.ends.items in
    let end : ℕ = c.place.result in
    let held = c.loop-row.invariant in
    let below = c.loop-row-test.true in
    let is = c.row.view_is ∙ get_or_read rows i c.row-item.result below c.row-item.is no_job in
    let time : c.row.inside.deadline ≡ (job_at rows i).deadline = ap (λ (job : Job). job.deadline) is in
    let at = subst (λ (time : ℕ). IsPlace times time end) time c.place.ensures.is in
    let known = c.requires.all i no_job below (omega (arith, time, c.row.invariant.has_window)) in
    let here : IsEnd times (job_at rows i).deadline end = record {
      within = place_known times (job_at rows i).deadline end c.requires.rising known at;
      there = time_there times (job_at rows i).deadline end c.requires.rising known at;
      is = at;
    } in
    record {
      as_long = rw c.in_ok-push.ensures.items (omega (arith, length_push ends end, held.as_long));
      each = rw c.in_ok-push.ensures.items (λ k less. elim (cases_lt k i) [
        | inl early ↦ subst (IsEnd times (job_at rows k).deadline) (sym (get_or_append_left ends (end ∷ []) 0 k (omega (arith, early, held.as_long)))) (held.each k early)
        | inr last ↦
            let same : i ≡ k = omega (arith, last, less) in
            subst (λ (n : ℕ). IsEnd times (job_at rows n).deadline (get_or (ends ++ end ∷ []) n 0)) same
            (subst (IsEnd times (job_at rows i).deadline) (sym (get_or_push ends end 0 i held.as_long)) here)
      ]);
      jobs = All-more IsJob rows i no_job below held.jobs (subst IsJob is c.row.invariant);
    }

pub returns-clause-ends : goal.returns-clause-ends
returns-clause-ends c =
    let held = c.loop-row.invariant in
    record {
      as_long = omega (arith, held.as_long, c.loop-row-test.false, c.loop-row.auto.row-index-end);
      each = λ k below. held.each k (omega (arith, below, c.loop-row-test.false));
    }

pub returns-clause-jobs : goal.returns-clause-jobs
returns-clause-jobs c = subst (All IsJob) (take_all c.loop-row.row-index c.args.rows.now c.loop-row-test.false) c.loop-row.invariant.jobs
