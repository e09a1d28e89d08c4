use Rattle.yds_model.proofs.Common.{take, flat_map, enumerate_from, level_row}
use Rattle.yds_port.proofs.Putting.{PutsWhole}
use Rattle.yds_report.proofs.reporting.write_levels.Given as goal

-- the rows before this one were put
abbrev pub invariant-loop-place : goal.invariant-loop-place
invariant-loop-place g l =
    PutsWhole g.K.Sink.written g.K.Sink.flushed g.K.Sink.flushes g.K.Sink.faults (flat_map level_row (take l.place (enumerate_from 1 l.levels))) l.fn.sink l.sink
