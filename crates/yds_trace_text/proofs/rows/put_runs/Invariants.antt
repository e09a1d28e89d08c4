use Rattle.base.proofs.Common.{◌≡◌, ◌++◌, take, flat_map}
use Rattle.yds_trace_document.specs.Views.{placed_list}
use Rattle.yds_trace_text.specs.Text.{run_text}
use Rattle.yds_trace_text.specs.Views.{names_read}
use Rattle.yds_trace_text.proofs.rows.put_runs.Given as goal

abbrev pub invariant-loop-placed : goal.invariant-loop-placed
invariant-loop-placed l =
    l.text.items ≡ l.initial.text.items ++ flat_map (run_text (names_read l.names)) (placed_list (take l.placed-index l.runs))
