use Rattle.base.proofs.Common.{◌≡◌, take}
use Rattle.yds_trace_document.specs.Views.{units_read, judged_list}
use Rattle.yds_trace_text.specs.Text.{short_stretches}
use Rattle.yds_trace_text.proofs.short.short_stretches.Given as goal

abbrev pub invariant-loop-one : goal.invariant-loop-one
invariant-loop-one l = l.short.items ≡ short_stretches (units_read l.units) (judged_list (take l.one-index l.judged))
