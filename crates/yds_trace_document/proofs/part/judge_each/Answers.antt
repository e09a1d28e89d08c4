use Rattle.base.proofs.Common.{◌∙◌, ◌++◌, ◌∷◌, [], ◌<◌, List, length, arith, ap, ap₂, sym, map-append}
use Rattle.yds_trace.specs.declared.asked.Task.{Task as TaskKept}
use Rattle.yds_trace.specs.declared.shown.ShownTask.{ShownTask}
use Rattle.yds_trace.specs.Document.{Judged}
use Rattle.yds_trace.specs.Views.{task_read}
use Rattle.yds_trace_document.specs.Kept.{shown_task}
use Rattle.yds_trace_document.specs.Views.{within_read, judged_items, judged_lists}
use Rattle.yds_trace_document.proofs.Steps.{shown_more}
use Rattle.yds_trace_document.proofs.part.judge_each.Goals as goal

pub loop-number-preserved : goal.loop-number-preserved
loop-number-preserved c =
    let inside : c.loop-number.number < length c.args.tasks.now = omega arith in
    let also : c.loop-number.number < length c.args.shown.now = omega (arith, c.requires.of_each_task) in
    ap judged_lists c.in_ok-push.ensures.items
    ∙ map-append judged_items c.loop-number.judged.items (c.in_ok-judge_shown.field-0 ∷ [])
    ∙ ap₂ (λ (front : List (List Judged)) (last : List Judged). front ++ last ∷ []) c.loop-number.invariant
    (c.in_ok-judge_shown.ensures
    ∙ ap₂ (λ (task : TaskKept) (shown : ShownTask). shown_task (within_read c.args.within) c.args.boundary c.loop-number.number (task_read task) shown)
    c.index-tasks-number.is c.index-shown-number.is)
    ∙ sym (shown_more (within_read c.args.within) c.args.boundary c.args.tasks.now c.args.shown.now c.loop-number.number c.index-tasks-number.result
    c.index-shown-number.result inside also)
