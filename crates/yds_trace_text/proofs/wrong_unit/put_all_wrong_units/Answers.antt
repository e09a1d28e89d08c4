use Rattle.base.proofs.Common.{◌∙◌, ◌++◌, ◌<◌, ◌≤◌, ℕ, List, length, take, min, flat_map, ap, ap₂, sym, arith, append_assoc}
use Rattle.std.specs.Prelude.{Vec}
use Rattle.std.specs.declared.alloc.Global.{Global}
use Rattle.yds_trace.specs.declared.asked.Task.{Task as TaskKept}
use Rattle.yds_trace.specs.Asked.{Task}
use Rattle.yds_trace.specs.Document.{Judged}
use Rattle.yds_trace.specs.Views.{task_read}
use Rattle.yds_trace_document.specs.declared.judged.Judged.{Judged as JudgedKept}
use Rattle.yds_trace_document.specs.Views.{judged_list, judged_items}
use Rattle.yds_trace_text.specs.Text.{unit_comments, task_unit_comments}
use Rattle.yds_trace_text.proofs.Read.{paired, paired_more, paired_all}
use Rattle.yds_trace_text.proofs.wrong_unit.put_all_wrong_units.Goals as goal

pub loop-number-preserved : goal.loop-number-preserved
loop-number-preserved c =
    let inside : c.loop-number.number < length c.args.tasks.now = omega (arith, c.min-number-end.ensures) in
    let also : c.loop-number.number < length c.args.by_task.now = omega (arith, c.min-number-end.ensures) in
    let front : List ℕ = flat_map task_unit_comments (take c.loop-number.number (paired c.args.tasks.now c.args.by_task.now)) in
    let here : List ℕ = unit_comments (task_read c.index-tasks-number.result) (judged_list c.deref.result.now) in
    c.in_ok-put_wrong_units.ensures
    ∙ ap (λ (before : List ℕ). before ++ here) c.loop-number.invariant
    ∙ append_assoc c.args.text.now.items front here
    ∙ ap (λ (more : List ℕ). c.args.text.now.items ++ more)
    (ap (λ (more : List ℕ). front ++ more)
    (ap (λ (judged : List JudgedKept). unit_comments (task_read c.index-tasks-number.result) (judged_list judged)) c.deref.ensures.value
    ∙ ap₂ (λ (task : TaskKept) (judged : Vec JudgedKept Global). let pair : Task × List Judged = (task_read task, judged_items judged) in task_unit_comments pair)
    c.index-tasks-number.is c.index-by_task-number.is)
    ∙ sym (paired_more task_unit_comments c.args.tasks.now c.args.by_task.now c.loop-number.number c.index-tasks-number.result c.index-by_task-number.result inside also))

pub returns : goal.returns
returns c =
    let whole : min (length c.args.tasks.now) (length c.args.by_task.now) ≤ c.loop-number.number = omega (arith, c.min-number-end.ensures) in
    c.loop-number.invariant
    ∙ ap (λ (pairs : List (Task × List Judged)). c.args.text.now.items ++ flat_map task_unit_comments pairs)
    (paired_all c.loop-number.number c.args.tasks.now c.args.by_task.now whole)
