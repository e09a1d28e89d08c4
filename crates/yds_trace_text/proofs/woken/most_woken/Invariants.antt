use Rattle.base.proofs.Common.{◌≡◌, drop, []}
use Rattle.yds_trace_document.specs.Views.{judged_list}
use Rattle.yds_trace_text.specs.Text.{most_woken}
use Rattle.yds_trace_text.specs.Views.{name_or_none}
use Rattle.yds_trace_text.proofs.woken.most_woken.Given as goal

abbrev pub invariant-loop-one : goal.invariant-loop-one
invariant-loop-one l = most_woken (judged_list (drop l.one-index l.judged)) l.most (name_or_none l.name) ≡ most_woken (judged_list l.judged) 0 []
