use Rattle.base.proofs.Common.{◌≡◌, map, take}
use Rattle.yds_trace.specs.Views.{span_read}
use Rattle.yds_trace.proofs.others.copied.Given as goal

abbrev pub invariant-loop-span : goal.invariant-loop-span
invariant-loop-span l = map span_read l.all.items ≡ map span_read (take l.span-index l.spans)
