use Rattle.base.proofs.Common.{◌≡◌, ◌≤◌, length, drop}
use Rattle.yds_trace_document.specs.Views.{written_list}
use Rattle.yds_trace_text.specs.PartText.{least_release}
use Rattle.yds_trace_text.proofs.part.least_release.Given as goal

abbrev pub invariant-loop-left : goal.invariant-loop-left
invariant-loop-left l = record {
  within : l.left ≤ length l.jobs;
  is : l.least ≡ least_release (written_list (drop l.left l.jobs));
}

abbrev pub decreases-loop-left : goal.decreases-loop-left
decreases-loop-left l = l.left
