use Rattle.base.proofs.Common.{drop}
use Rattle.yds_trace_parts.specs.Telling.{cuts_of}
use Rattle.yds_trace_parts.proofs.Loops.{LatestSoFar}
use Rattle.yds_trace_parts.proofs.processors.latest_of.Given as goal

abbrev pub invariant-loop-one : goal.invariant-loop-one
invariant-loop-one l = LatestSoFar (cuts_of l.processors l.fn.unseen) (drop l.one-index l.processors) l.latest
