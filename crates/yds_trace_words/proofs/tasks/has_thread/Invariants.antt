use Rattle.base.proofs.Common.{◌≡◌, drop, map}
use Rattle.std.specs.List.{list_any}
use Rattle.yds_trace.specs.Views.{task_read}
use Rattle.yds_trace_words.specs.Tasks.{is_same_thread}
use Rattle.yds_trace_words.proofs.tasks.has_thread.Given as goal

abbrev pub invariant-loop-other : goal.invariant-loop-other
invariant-loop-other l = list_any (is_same_thread (task_read l.task)) (map task_read (drop l.other-index l.others)) ≡ list_any (is_same_thread (task_read l.task)) (map task_read l.others)
