use Rattle.base.proofs.Common.{◌≡◌, drop}
use Rattle.yds_trace.specs.Parts.{greatest_due}
use Rattle.yds_trace_document.specs.Views.{judged_list}
use Rattle.yds_trace_parts.proofs.part.greatest_due.Given as goal

abbrev pub invariant-loop-judged : goal.invariant-loop-judged
invariant-loop-judged l = greatest_due l.greatest (judged_list (drop l.judged-index l.part)) ≡ greatest_due l.due (judged_list l.part)
