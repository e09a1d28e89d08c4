use Rattle.yds_model.proofs.Common.{take, flat_map, point_line}
use Rattle.yds_port.proofs.Putting.{PutsWhole}
use Rattle.document_text.proofs.point.print.Given as goal

-- the lines before this one were put
abbrev pub invariant-loop-point : goal.invariant-loop-point
invariant-loop-point g l =
    PutsWhole g.K.Sink.written g.K.Sink.flushed g.K.Sink.flushes g.K.Sink.faults (flat_map point_line (take l.point-index l.points)) l.fn.sink l.sink
