use Rattle.base.proofs.Common.{◌≡◌, ◌≤◌, length, drop}
use Rattle.yds_trace.specs.WrittenTime.{runs_of}
use Rattle.yds_trace_document.specs.Views.{units_read, runs_listed}
use Rattle.yds_trace_document.proofs.run.runs_of.Given as goal

abbrev pub invariant-loop-left : goal.invariant-loop-left
invariant-loop-left l = record {
  within : l.left ≤ length l.stretches;
  listed : runs_listed l.runs.items ≡ runs_of (units_read l.units) (drop l.left l.stretches);
}

abbrev pub decreases-loop-left : goal.decreases-loop-left
decreases-loop-left l = l.left
