use Rattle.base.proofs.Common.{◌≡◌, ◌++◌, take, flat_map}
use Rattle.yds_trace_document.specs.Views.{units_read, judged_list}
use Rattle.yds_trace_text.specs.Text.{late_comment}
use Rattle.yds_trace_text.proofs.late.put_all_late.Given as goal

abbrev pub invariant-loop-one : goal.invariant-loop-one
invariant-loop-one l =
    l.text.items ≡ l.initial.text.items ++ flat_map (late_comment (units_read l.units)) (judged_list (take l.one-index l.judged))
