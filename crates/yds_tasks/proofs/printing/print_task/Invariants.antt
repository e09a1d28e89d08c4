use Rattle.yds_model.proofs.Common.{take, flat_map, numbers_of_jobs}
use Rattle.yds_port.proofs.Putting.{PutsWhole}
use Rattle.yds_tasks.specs.Printed.{nth_line}
use Rattle.yds_tasks.specs.Read.{task_read}
use Rattle.yds_tasks.proofs.printing.print_task.Given as goal

-- the lines before this one were put
abbrev pub invariant-loop-k : goal.invariant-loop-k
invariant-loop-k g l =
    PutsWhole g.K.Sink.written g.K.Sink.flushed g.K.Sink.flushes g.K.Sink.faults (flat_map (nth_line (task_read l.task)) (take l.k (numbers_of_jobs l.horizon (task_read l.task)))) l.fn.sink l.sink
