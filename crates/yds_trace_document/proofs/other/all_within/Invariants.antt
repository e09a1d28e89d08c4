use Rattle.base.proofs.Common.{◌≡◌, take, map}
use Rattle.yds_trace.specs.Others.{spans_within}
use Rattle.yds_trace_document.specs.Views.{other_read}
use Rattle.yds_trace_document.proofs.other.all_within.Given as goal

abbrev pub invariant-loop-other : goal.invariant-loop-other
invariant-loop-other l = map other_read l.some.items ≡ spans_within l.from l.until (map other_read (take l.other-index l.others))
