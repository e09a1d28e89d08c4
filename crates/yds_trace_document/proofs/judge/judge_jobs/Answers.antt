use Rattle.base.proofs.Common.{◌∙◌, ◌++◌, ◌∷◌, [], ◌+◌, ◌<◌, List, length, arith, ap, ap₂, sym, map-append}
use Rattle.yds_trace.specs.declared.job.Job.{Job as JobKept}
use Rattle.yds_trace.specs.Document.{Judged}
use Rattle.yds_trace.specs.Views.{job_read, task_read}
use Rattle.yds_trace_document.specs.Kept.{judged_at}
use Rattle.yds_trace_document.specs.Views.{within_read, judged_read, judged_list}
use Rattle.yds_trace_document.proofs.Steps.{judged_more}
use Rattle.yds_trace_document.proofs.judge.judge_jobs.Goals as goal

pub loop-place-preserved : goal.loop-place-preserved
loop-place-preserved c =
    let inside : c.loop-place.place < length c.args.jobs.now = omega arith in
    ap judged_list c.in_ok-push.ensures.items
    ∙ map-append judged_read c.loop-place.judged.items (c.judge.result ∷ [])
    ∙ ap₂ (λ (front : List Judged) (last : Judged). front ++ last ∷ []) c.loop-place.invariant
    (c.judge.ensures ∙ ap (λ (job : JobKept).
    judged_at (within_read c.args.within) c.args.number (task_read c.args.task.now) c.args.before (c.args.first + c.loop-place.place, job_read job)) c.index-jobs-place.is)
    ∙ sym (judged_more (within_read c.args.within) c.args.number (task_read c.args.task.now) c.args.before c.args.first c.args.jobs.now
    c.loop-place.place c.index-jobs-place.result inside)
