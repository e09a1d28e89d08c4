use Rattle.base.proofs.Common.{◌≡◌, ◌++◌, take, map}
use Rattle.yds_trace_threads.specs.Table.{shown}
use Rattle.yds_trace_threads.proofs.text.put_shown.Given as goal

abbrev pub invariant-loop-byte : goal.invariant-loop-byte
invariant-loop-byte l = l.text.items ≡ l.fn.text.items ++ map shown (take l.byte-index l.name)
