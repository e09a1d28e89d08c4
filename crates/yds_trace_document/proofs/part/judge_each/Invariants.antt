use Rattle.base.proofs.Common.{◌≡◌, take, map}
use Rattle.yds_trace.specs.Views.{task_read}
use Rattle.yds_trace_document.specs.Kept.{shown_tasks}
use Rattle.yds_trace_document.specs.Views.{judged_lists, within_read}
use Rattle.yds_trace_document.proofs.part.judge_each.Given as goal

abbrev pub invariant-loop-number : goal.invariant-loop-number
invariant-loop-number l =
    judged_lists l.judged.items
    ≡ shown_tasks (within_read l.within) l.boundary 0 (map task_read (take l.number l.tasks)) (take l.number l.shown)
