use Rattle.base.proofs.Common.{◌≡◌, ◌+◌, drop, map}
use Rattle.yds_trace.specs.Views.{task_read}
use Rattle.yds_trace_words.specs.Tasks.{tasks_from}
use Rattle.yds_trace_words.proofs.Listed.{ahead}
use Rattle.yds_trace_words.proofs.tasks.each_task.Given as goal

abbrev pub invariant-loop-index : goal.invariant-loop-index
invariant-loop-index l = tasks_from l.unit 1 (map (λ piece. piece.now) l.pieces)
    ≡ ahead (map task_read l.tasks.items) (tasks_from l.unit (l.index + 1) (map (λ piece. piece.now) (drop l.index l.pieces)))
