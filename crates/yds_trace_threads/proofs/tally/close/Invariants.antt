use Rattle.base.proofs.Common.{List}
use Rattle.yds_kernel.specs.Event.{Said}
use Rattle.yds_trace_threads.specs.Acts.{acts}
use Rattle.yds_trace_threads.specs.Kept.{IsThreads, IsProcessors, no_more}
use Rattle.yds_trace_threads.proofs.Facts.{still_on}
use Rattle.yds_trace_threads.proofs.tally.close.Given as goal

-- who has one of the processors so far has had it until the last time
abbrev pub invariant-loop-number : goal.invariant-loop-number
invariant-loop-number l = (past : List Said) → IsThreads (acts past) no_more l.fn.threads → IsProcessors past l.fn.processors
    → IsThreads (acts past) (still_on past l.number) l.threads
