use Rattle.base.proofs.Common.{◌≡◌, take}
use Rattle.yds_kernel.specs.Parts.{capped}
use Rattle.yds_trace.specs.WrittenTime.{work_of_runs}
use Rattle.yds_trace_document.specs.Views.{runs_read}
use Rattle.yds_trace_document.proofs.written.work_of.Given as goal

abbrev pub invariant-loop-run : goal.invariant-loop-run
invariant-loop-run l = l.work ≡ capped (work_of_runs (runs_read (take l.run-index l.runs)))
