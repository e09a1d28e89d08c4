use Rattle.base.proofs.Common.{◌+◌, ◌-◌, vec_len}
use Rattle.yds_trace_parts.proofs.Loops.{GrowsTo}
use Rattle.yds_trace_parts.proofs.processors.grow_to.Given as goal

abbrev pub invariant-loop-cut : goal.invariant-loop-cut
invariant-loop-cut l = GrowsTo l.initial.processors.items l.processors.items l.fn.cut l.fn.last

abbrev pub decreases-loop-cut : goal.decreases-loop-cut
decreases-loop-cut l = l.fn.last + 1 - vec_len l.processors
