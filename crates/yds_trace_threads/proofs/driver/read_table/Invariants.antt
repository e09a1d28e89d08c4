use Rattle.base.proofs.Common.{◌≡◌}
use Rattle.yds_trace_threads.proofs.Passing.{IsAhead}
use Rattle.yds_trace_threads.proofs.driver.read_table.Given as goal

-- the lines so far were taken
abbrev pub invariant-loop-lines : goal.invariant-loop-lines
invariant-loop-lines g l = record {
  ahead : IsAhead (g.S.Source.left l.fn.source) l.tally l.reader (g.S.Source.left l.source) l._lines;
  faults : g.S.Source.faults l.source ≡ g.S.Source.faults l.fn.source;
}
