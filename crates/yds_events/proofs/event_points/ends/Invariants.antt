use Rattle.yds_model.proofs.Common.{◌≡◌, take, All, IsJob}
use Rattle.yds_events.specs.Keys.{ends_of}
use Rattle.yds_events.proofs.event_points.ends.Given as goal

abbrev pub invariant-loop-row : goal.invariant-loop-row
invariant-loop-row l = record { ends : l.ends.items ≡ ends_of (take l.row-index l.rows); jobs : All IsJob (take l.row-index l.rows) }
