use Rattle.base.proofs.Common.{◌≡◌}
use Rattle.yds_trace.specs.Views.{asked_read}
use Rattle.yds_trace_bounds.specs.Bounds.{asked_from}
use Rattle.yds_trace_reading.proofs.Passing.{IsAhead}
use Rattle.yds_trace_reading.proofs.reading.pass_over.Given as goal

abbrev pub invariant-loop-lines : goal.invariant-loop-lines
invariant-loop-lines g l = record {
  ahead : IsAhead (asked_from l.first l.fn.bounds (asked_read l.fn.asked)) (g.S.Source.left l.fn.source) l.pass l.reader (g.S.Source.left l.source) l._lines;
  faults : g.S.Source.faults l.source ≡ g.S.Source.faults l.fn.source;
}
