use Rattle.yds_model.proofs.Common.{◌≡◌, ℕ, ◌<◌, length, map, get_or}
use Rattle.yds_search.specs.Cells.{no_cell, first_cell}
use Rattle.yds_search.proofs.filling.set_cells.Given as goal

abbrev pub invariant-loop-place : goal.invariant-loop-place
invariant-loop-place l = record {
  count : length l.cell-items ≡ length l.stretches;
  done : (k : ℕ) → k < l.place → get_or l.cell-items k no_cell ≡ get_or (map (first_cell l.per_time (length l.stretches)) l.stretches) k no_cell;
  rest : (k : ℕ) → k < length l.stretches → (get_or l.cell-items k no_cell).shared ≡ length l.stretches;
  rest_late : (k : ℕ) → k < length l.stretches → (get_or l.cell-items k no_cell).late ≡ length l.stretches;
}
