use Rattle.base.proofs.Common.{◌≡◌}
use Rattle.yds_trace_reading.proofs.Draining.{IsBehind}
use Rattle.yds_trace_reading.proofs.reading.drain.Given as goal

-- each read took a byte
abbrev pub invariant-loop-reads : goal.invariant-loop-reads
invariant-loop-reads g l = record {
  behind : IsBehind (g.S.Source.left l.fn.source) (g.S.Source.left l.source) l._reads;
  faults : g.S.Source.faults l.source ≡ g.S.Source.faults l.fn.source;
}
