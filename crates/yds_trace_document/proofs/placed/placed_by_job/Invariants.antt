use Rattle.base.proofs.Common.{◌≡◌, take, flat_map, enumerate_from}
use Rattle.yds_trace.specs.Document.{placed_runs}
use Rattle.yds_trace_document.specs.Views.{written_list, placed_list}
use Rattle.yds_trace_document.proofs.placed.placed_by_job.Given as goal

abbrev pub invariant-loop-place : goal.invariant-loop-place
invariant-loop-place l = placed_list l.placed.items ≡ flat_map placed_runs (enumerate_from 0 (written_list (take l.place l.jobs)))
