use Rattle.base.proofs.Common.{◌≡◌}
use Rattle.yds_trace.specs.Views.{asked_read}
use Rattle.yds_trace_bounds.specs.Bounds.{asked_from}
use Rattle.yds_trace_reading.proofs.Beginning.{IsKnownFirst}
use Rattle.yds_trace_parts.specs.Flushing.{IsFlushedSince}
use Rattle.yds_trace_parts.proofs.Ahead.{IsCounted}
use Rattle.yds_trace_parts.proofs.driver.tell.Given as goal

-- the time from which the bounds count is known, the lines so far were taken, and their parts are written and flushed
abbrev pub invariant-loop-lines : goal.invariant-loop-lines
invariant-loop-lines g l = record {
  known : IsKnownFirst l.fn.bounds (g.S.Source.left l.fn.source) l.first;
  told : IsCounted (asked_from l.first l.fn.bounds (asked_read l.fn.asked)) l.fn.strict (g.S.Source.left l.fn.source) l.telling l.reader (g.S.Source.left l.source) l.lines
      (g.K.Sink.written l.fn.sink) (g.K.Sink.written l.sink) (g.K.Sink.flushes l.fn.sink) (g.K.Sink.flushes l.sink);
  read : g.S.Source.faults l.source ≡ g.S.Source.faults l.fn.source;
  wrote : g.K.Sink.faults l.sink ≡ g.K.Sink.faults l.fn.sink;
  flushed : IsFlushedSince g.K.Sink.written g.K.Sink.flushed l.fn.sink l.sink;
}
