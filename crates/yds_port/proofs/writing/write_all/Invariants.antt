use Rattle.base.proofs.Common.{◌≡◌, List, ℕ, ◌++◌, length, Appends}
use Rattle.yds_port.proofs.writing.write_all.Given as goal

-- a front of the piece was appended, and the rest is to be written
abbrev pub invariant-loop-rest : goal.invariant-loop-rest
invariant-loop-rest g l = record {
  done : List ℕ;
  whole : l.piece ≡ done ++ l.rest;
  appended : Appends (g.K.Sink.written l.fn.sink) (g.K.Sink.written l.sink) done;
  flushed_stays : g.K.Sink.flushed l.sink ≡ g.K.Sink.flushed l.fn.sink;
  flushes_stay : g.K.Sink.flushes l.sink ≡ g.K.Sink.flushes l.fn.sink;
  no_fault : g.K.Sink.faults l.sink ≡ g.K.Sink.faults l.fn.sink;
}

abbrev pub decreases-loop-rest : goal.decreases-loop-rest
decreases-loop-rest g l = length l.rest
