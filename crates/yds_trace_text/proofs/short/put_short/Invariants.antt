use Rattle.base.proofs.Common.{◌≡◌, ◌++◌, take, filter}
use Rattle.yds_trace.specs.WrittenTime.{is_short}
use Rattle.yds_trace_document.specs.Views.{units_read}
use Rattle.yds_trace_text.proofs.short.put_short.Given as goal

abbrev pub invariant-loop-stretch : goal.invariant-loop-stretch
invariant-loop-stretch l =
    l.short.items ≡ l.initial.short.items ++ filter (is_short (units_read l.units)) (take l.stretch-index l.stretches)
