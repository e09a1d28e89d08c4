use Rattle.base.proofs.Common.{◌≡◌, take}
use Rattle.yds_trace_document.specs.Kept.{together}
use Rattle.yds_trace_document.specs.Views.{judged_list, judged_lists}
use Rattle.yds_trace_document.proofs.settlement.all_tasks.Given as goal

abbrev pub invariant-loop-judged : goal.invariant-loop-judged
invariant-loop-judged l = judged_list l.all.items ≡ together (judged_lists (take l.judged-index l.by_task))
