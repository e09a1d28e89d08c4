use Rattle.yds_model.proofs.Common.{take, flat_map}
use Rattle.yds_port.proofs.Putting.{PutsWhole}
use Rattle.yds_tasks.specs.Printed.{task_lines}
use Rattle.yds_tasks.specs.Read.{task_read}
use Rattle.yds_tasks.proofs.printing.print_tasks.Given as goal

-- the jobs of the tasks before this one were put
abbrev pub invariant-loop-task : goal.invariant-loop-task
invariant-loop-task g l =
    PutsWhole g.K.Sink.written g.K.Sink.flushed g.K.Sink.flushes g.K.Sink.faults (flat_map (λ task. task_lines l.horizon (task_read task)) (take l.task-index l.tasks)) l.fn.sink l.sink
