use Rattle.yds_model.proofs.Common.{All-map}
use Rattle.yds_timetable.specs.Timetable.{IsRow}
use Rattle.yds_timetable.specs.KeptRows.{row_kept}
use Rattle.yds_timetable.proofs.timetable.Timetable.len.Goals as goal

pub returns-clause-kept : goal.returns-clause-kept
returns-clause-kept c = rw (← c.self.view_is)
    (All-map IsRow (row_kept c.self.inside.paces.items c.self.inside.shares.items) c.self.inside.rows.items (λ k d within. (c.self.invariant k d within).is_row))
