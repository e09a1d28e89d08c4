use Rattle.yds_model.proofs.Common.{take, flat_map, break_line}
use Rattle.yds_port.proofs.Putting.{PutsWhole}
use Rattle.yds_answer_plans.proofs.curve.write_breaks.Given as goal

-- the lines before this one were put
abbrev pub invariant-loop-bend : goal.invariant-loop-bend
invariant-loop-bend g l =
    PutsWhole g.K.Sink.written g.K.Sink.flushed g.K.Sink.flushes g.K.Sink.faults (flat_map break_line (take l.bend-index l.breaks)) l.fn.sink l.sink
