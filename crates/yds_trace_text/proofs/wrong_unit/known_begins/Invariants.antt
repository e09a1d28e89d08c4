use Rattle.base.proofs.Common.{◌≡◌, take}
use Rattle.yds_trace_document.specs.Views.{judged_list}
use Rattle.yds_trace_text.specs.Text.{known_begins}
use Rattle.yds_trace_text.proofs.wrong_unit.known_begins.Given as goal

abbrev pub invariant-loop-one : goal.invariant-loop-one
invariant-loop-one l = l.begins.items ≡ known_begins (judged_list (take l.one-index l.judged))
