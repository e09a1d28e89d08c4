use Rattle.yds_model.proofs.Common.{◌∷◌, [], ◌++◌, List, ◌∙◌, sym, ap₂, arith, get_or_read, length_push, take_more, Job, no_job}
use Rattle.yds_admit.proofs.Listed.{rows_push}
use Rattle.yds_admit.proofs.rows.Rows.from_slice.Goals as goal

pub loop-job-preserved : goal.loop-job-preserved
loop-job-preserved c =
    let held = c.loop-job.invariant in
    let i = c.loop-job.job-index in
    let row = c.job.inside in
    let is = c.job.view_is ∙ get_or_read c.args.jobs.now i c.job-item.result c.loop-job-test.true c.job-item.is no_job in
    rw (c.in_ok-push.ensures.items, c.in_ok-push-2.ensures.items, c.in_ok-push-3.ensures.items)
    (record {
      are = record {
        due = omega (arith, held.are.due, length_push c.loop-job.releases.items row.release, length_push c.loop-job.deadlines.items row.deadline);
        wanted = omega (arith, held.are.wanted, length_push c.loop-job.releases.items row.release, length_push c.loop-job.works.items row.work);
      };
      jobs = rows_push c.loop-job.releases.items c.loop-job.deadlines.items c.loop-job.works.items held.are row.release row.deadline row.work
          ∙ ap₂ (λ (jobs : List Job) (job : Job). jobs ++ job ∷ []) held.jobs is ∙ sym (take_more c.args.jobs.now i no_job c.loop-job-test.true);
    })
