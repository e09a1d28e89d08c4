use Rattle.base.proofs.Common.{◌≡◌, ◌≤◌, length, drop}
use Rattle.yds_trace_document.specs.Views.{written_list}
use Rattle.yds_trace_text.specs.PartText.{last_deadline}
use Rattle.yds_trace_text.proofs.part.last_deadline.Given as goal

abbrev pub invariant-loop-left : goal.invariant-loop-left
invariant-loop-left l = record {
  within : l.left ≤ length l.jobs;
  is : l.last ≡ last_deadline (written_list (drop l.left l.jobs));
}

abbrev pub decreases-loop-left : goal.decreases-loop-left
decreases-loop-left l = l.left
