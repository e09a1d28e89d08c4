use Rattle.yds_model.proofs.Common.{◌≡◌, map, range_with_len}
use Rattle.yds_timetable.specs.Sorted.{kept_row, start_of}
use Rattle.yds_timetable.proofs.timetable.kept_rows.Given as goal

abbrev pub invariant-loop-number : goal.invariant-loop-number
invariant-loop-number l = record {
  rows : l.rows.items ≡ map (kept_row l.timeline l.paces l.places l.ends) (range_with_len 0 l.number);
  start : l.start ≡ start_of l.ends l.number;
}
