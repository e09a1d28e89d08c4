use Rattle.base.proofs.Common.{◌≡◌, ◌++◌, take}
use Rattle.yds_trace_document.specs.Kept.{placed_of}
use Rattle.yds_trace_document.specs.Views.{runs_read, placed_list}
use Rattle.yds_trace_document.proofs.placed.put_runs.Given as goal

abbrev pub invariant-loop-run : goal.invariant-loop-run
invariant-loop-run l = placed_list l.placed.items ≡ placed_list l.initial.placed.items ++ placed_of l.job (runs_read (take l.run-index l.runs))
