use Rattle.base.proofs.Common.{◌≡◌, ◌∙◌, ℕ, List, IfOk, map, ap, ap₂, subst, sym}
use Rattle.yds_trace.specs.declared.asked.Task.{Task as TaskKept}
use Rattle.yds_trace.specs.declared.shown.ShownTask.{ShownTask}
use Rattle.yds_trace.specs.Past.{first_time, last_time}
use Rattle.yds_trace.specs.Shown.{IsShared}
use Rattle.yds_trace.specs.Document.{Judged}
use Rattle.yds_trace.specs.Views.{asked_read, task_read}
use Rattle.yds_trace_document.specs.Kept.{shown_tasks, within_of}
use Rattle.yds_trace_document.specs.Views.{judged_lists}
use Rattle.yds_trace_document.proofs.Waits.{all_shown}
use Rattle.yds_trace_document.proofs.part.judge_by_task.Goals as goal

pub returns : goal.returns
returns c past cut at is =
    let known : IsShared (asked_read c.args.asked.now) past cut.boundary c.args.shown.now =
    subst (λ (boundary : ℕ). IsShared (asked_read c.args.asked.now) past boundary c.args.shown.now) (sym at) is in
    subst (λ (made : List (List Judged)). IfOk c.judge_each.result (λ by_task. judged_lists by_task.items ≡ made))
    (ap₂ (λ (tasks : List TaskKept) (shown : List ShownTask).
    shown_tasks (within_of (asked_read c.args.asked.now) c.args.shown.now.first c.args.shown.now.last) c.args.boundary 0 (map task_read tasks) shown)
    c.deref.ensures.value c.deref-2.ensures.value
    ∙ ap₂ (λ (first last : ℕ).
    shown_tasks (within_of (asked_read c.args.asked.now) first last) c.args.boundary 0 (asked_read c.args.asked.now).tasks c.args.shown.now.tasks.items) is.first is.last
    ∙ ap (λ (boundary : ℕ).
    shown_tasks (within_of (asked_read c.args.asked.now) (first_time 0 past) (last_time past)) boundary 0 (asked_read c.args.asked.now).tasks c.args.shown.now.tasks.items) (sym at)
    ∙ all_shown (asked_read c.args.asked.now) past cut c.args.shown.now.tasks.items known.as_many known.tasks)
    c.judge_each.ensures
