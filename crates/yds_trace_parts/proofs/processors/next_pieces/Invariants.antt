use Rattle.base.proofs.Common.{drop}
use Rattle.yds_trace_parts.proofs.Loops.{AreNext}
use Rattle.yds_trace_parts.proofs.processors.next_pieces.Given as goal

abbrev pub invariant-loop-one : goal.invariant-loop-one
invariant-loop-one l = AreNext l.strict l.initial.pass l.pass l.shown l.processors (drop l.one-index l.processors) l.pieces
