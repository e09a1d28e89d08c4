use Rattle.base.proofs.Common.{◌≡◌, take, map}
use Rattle.yds_trace.specs.Ended.{in_order_of_begin}
use Rattle.yds_trace.specs.Views.{task_read}
use Rattle.yds_trace_document.specs.Kept.{judged_tasks}
use Rattle.yds_trace_document.specs.Views.{judged_lists, within_read}
use Rattle.yds_trace_document.proofs.settlement.judge_tasks.Given as goal

abbrev pub invariant-loop-number : goal.invariant-loop-number
invariant-loop-number l =
    judged_lists l.judged.items
    ≡ judged_tasks (within_read l.within) 0 (map task_read (take l.number l.tasks)) (map in_order_of_begin (take l.number l.jobs))
