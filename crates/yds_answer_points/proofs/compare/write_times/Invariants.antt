use Rattle.yds_model.proofs.Common.{take, flat_map, zip}
use Rattle.yds_port.proofs.Putting.{PutsWhole}
use Rattle.yds_answer_points.specs.Compare.{time_line}
use Rattle.yds_answer_points.proofs.compare.write_times.Given as goal

-- the lines before this one were put
abbrev pub invariant-loop-place : goal.invariant-loop-place
invariant-loop-place g l =
    PutsWhole g.K.Sink.written g.K.Sink.flushed g.K.Sink.flushes g.K.Sink.faults (flat_map (time_line l.name) (take l.place (zip l.table l.times))) l.fn.sink l.sink
