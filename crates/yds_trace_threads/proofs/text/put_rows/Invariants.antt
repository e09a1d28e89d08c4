use Rattle.base.proofs.Common.{◌≡◌, ◌++◌, take, map, flat_map}
use Rattle.yds_trace_threads.specs.Table.{row_line}
use Rattle.yds_trace_threads.specs.Kept.{row_read}
use Rattle.yds_trace_threads.proofs.text.put_rows.Given as goal

abbrev pub invariant-loop-row : goal.invariant-loop-row
invariant-loop-row l = l.text.items ≡ l.fn.text.items ++ flat_map row_line (map row_read (take l.row-index l.rows))
