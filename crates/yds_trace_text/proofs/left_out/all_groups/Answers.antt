use Rattle.base.proofs.Common.{◌≡◌, ◌∙◌, ◌++◌, ◌<◌, ◌≤◌, ℕ, List, length, get_or, map, filter, min, flat_map, ap, ap₂, sym, arith}
use Rattle.std.specs.Prelude.{Vec}
use Rattle.std.specs.declared.alloc.Global.{Global}
use Rattle.yds_trace.specs.declared.asked.Task.{Task as TaskKept}
use Rattle.yds_trace.specs.Asked.{Task}
use Rattle.yds_trace.specs.Document.{Judged}
use Rattle.yds_trace.specs.Views.{task_read}
use Rattle.yds_trace_document.specs.declared.judged.Judged.{Judged as JudgedKept}
use Rattle.yds_trace_document.specs.Views.{judged_list, judged_items}
use Rattle.yds_trace_text.specs.Text.{Group, group_for, every_reason, has_jobs, groups_of}
use Rattle.yds_trace_text.proofs.Read.{paired_more, paired_all}
use Rattle.yds_trace_text.proofs.left_out.all_groups.Goals as goal

pub loop-number-preserved : goal.loop-number-preserved
loop-number-preserved c =
    let inside : c.loop-number.number < length c.args.tasks.now = omega (arith, c.min-number-end.ensures) in
    let also : c.loop-number.number < length c.args.by_task.now = omega (arith, c.min-number-end.ensures) in
    let task : TaskKept = get_or c.args.tasks.now c.loop-number.number c.index-tasks-number.result in
    let label : c.deref.result.now ≡ task.label.items = c.deref.ensures.value in
    let jobs : c.deref-in-loop-number.result.now ≡ c.index-by_task-number.result.items = c.deref-in-loop-number.ensures.value in
    let here : filter has_jobs (map (group_for c.deref.result.now (judged_list c.deref-in-loop-number.result.now)) every_reason)
    ≡ groups_of (task_read task, judged_items c.index-by_task-number.result) =
    ap₂ (λ (name : List ℕ) (judged : List JudgedKept). filter has_jobs (map (group_for name (judged_list judged)) every_reason)) label jobs in
    c.in_ok-put_groups.ensures
    ∙ ap₂ (λ (front more : List Group). front ++ more) c.loop-number.invariant
    (here
    ∙ ap (λ (judged : Vec JudgedKept Global). let pair : Task × List Judged = (task_read task, judged_items judged) in groups_of pair)
    c.index-by_task-number.is)
    ∙ sym (paired_more groups_of c.args.tasks.now c.args.by_task.now c.loop-number.number c.index-tasks-number.result c.index-by_task-number.result inside also)

pub returns : goal.returns
returns c =
    let whole : min (length c.args.tasks.now) (length c.args.by_task.now) ≤ c.loop-number.number = omega (arith, c.min-number-end.ensures) in
    c.loop-number.invariant ∙ ap (flat_map groups_of) (paired_all c.loop-number.number c.args.tasks.now c.args.by_task.now whole)
