use Rattle.base.proofs.Common.{◌≡◌, ◌++◌, map}
use Rattle.yds_trace.specs.Views.{asked_read}
use Rattle.yds_trace_document.specs.PartKept.{items_of_part}
use Rattle.yds_trace_document.specs.Views.{judged_lists}
use Rattle.yds_trace_document.proofs.part.part_by_task.Given as goal

abbrev pub invariant-loop-jobs : goal.invariant-loop-jobs
invariant-loop-jobs l =
    (judged_lists l.some.items ++ map (items_of_part (asked_read l.asked) l.until) l.jobs-iterator.rest.items) ≡ map (items_of_part (asked_read l.asked) l.until) l.fn.by_task.items
