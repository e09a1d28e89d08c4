use Rattle.base.proofs.Common.{◌∙◌, ◌++◌, ◌∷◌, [], ◌<◌, List, length, map, arith, ap, ap₂, sym, map-append}
use Rattle.std.specs.Prelude.{Vec}
use Rattle.std.specs.declared.alloc.Global.{Global}
use Rattle.yds_trace.specs.declared.asked.Task.{Task as TaskKept}
use Rattle.yds_trace.specs.declared.job.Job.{Job as JobKept}
use Rattle.yds_trace.specs.Document.{Judged}
use Rattle.yds_trace.specs.Ended.{in_order_of_begin}
use Rattle.yds_trace.specs.Views.{job_read, task_read}
use Rattle.yds_trace_document.specs.Kept.{judged_task}
use Rattle.yds_trace_document.specs.Views.{within_read, judged_items, judged_lists}
use Rattle.yds_trace_document.proofs.Steps.{tasks_more}
use Rattle.yds_trace_document.proofs.settlement.judge_tasks.Goals as goal

pub loop-number-preserved : goal.loop-number-preserved
loop-number-preserved c =
    let inside : c.loop-number.number < length c.args.tasks.now = omega arith in
    let also : c.loop-number.number < length c.args.jobs.now = omega (arith, c.requires.of_each_task) in
    ap judged_lists c.in_ok-push.ensures.items
    ∙ map-append judged_items c.loop-number.judged.items (c.in_ok-judge_task.field-0 ∷ [])
    ∙ ap₂ (λ (front : List (List Judged)) (last : List Judged). front ++ last ∷ []) c.loop-number.invariant
    (c.in_ok-judge_task.ensures
    ∙ ap (λ (jobs : List JobKept). judged_task (within_read c.args.within) c.loop-number.number (task_read c.index-tasks-number.result) (map job_read jobs)) c.deref.ensures.value
    ∙ ap₂ (λ (task : TaskKept) (jobs : Vec JobKept Global). judged_task (within_read c.args.within) c.loop-number.number (task_read task) (in_order_of_begin jobs))
    c.index-tasks-number.is c.index-jobs-number.is)
    ∙ sym (tasks_more (within_read c.args.within) c.args.tasks.now c.args.jobs.now c.loop-number.number c.index-tasks-number.result c.index-jobs-number.result inside also)
