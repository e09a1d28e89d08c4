use Rattle.base.proofs.Common.{◌≡◌, ◌≤◌, length, drop}
use Rattle.yds_trace.specs.Document.{least_begin}
use Rattle.yds_trace_document.specs.Views.{judged_list}
use Rattle.yds_trace_document.proofs.settlement.first_begin.Given as goal

abbrev pub invariant-loop-left : goal.invariant-loop-left
invariant-loop-left l = record {
  within : l.left ≤ length l.judged;
  least : l.least ≡ least_begin (judged_list (drop l.left l.judged));
}

abbrev pub decreases-loop-left : goal.decreases-loop-left
decreases-loop-left l = l.left
