use Rattle.base.proofs.Common.{◌≡◌, take, map}
use Rattle.yds_trace.specs.Views.{span_read}
use Rattle.yds_trace_document.specs.Views.{other_read}
use Rattle.yds_trace_document.proofs.other.all_lent.Given as goal

abbrev pub invariant-loop-span : goal.invariant-loop-span
invariant-loop-span l = map other_read l.others.items ≡ map span_read (take l.span-index l.spans)
