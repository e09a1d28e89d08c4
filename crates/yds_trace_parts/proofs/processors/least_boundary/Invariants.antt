use Rattle.base.proofs.Common.{drop}
use Rattle.yds_trace_parts.specs.Telling.{cuts_of}
use Rattle.yds_trace_parts.proofs.Loops.{LeastSoFar}
use Rattle.yds_trace_parts.proofs.processors.least_boundary.Given as goal

abbrev pub invariant-loop-one : goal.invariant-loop-one
invariant-loop-one l = LeastSoFar (cuts_of l.processors l.fn.unseen) (drop l.one-index l.processors) l.fn.latest l.least
