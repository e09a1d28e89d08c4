-- What the line of a point says, by its fields and by the points before it.
use Rattle.std.specs.Prelude.{ℕ, List, [], ◌∷◌, ◌++◌, Result, Ok, nat_le}
use Rattle.base.specs.declared.limits.TheConstants.{MAX_POINT_SPEED, MAX_POINT_POWER, MAX_GAPS}
use Rattle.yds_model.specs.declared.reason.Reason.{Reason}
use Rattle.yds_model.specs.declared.reason.Reason.TheVariants as reasons
use Rattle.base.specs.Lines.{Field}
use Rattle.yds_model.specs.Entry.{Entry, PointEntry}
use Rattle.base.specs.Fields.{Spot, ◌>>=◌, demand}
use Rattle.yds_model.specs.Reading.{number_in, follows_points}
use Rattle.yds_model.specs.Table.{Point, hull_multiple}
use Rattle.yds_table.specs.declared.fault.TableFault.{TableFault}
use Rattle.yds_table.specs.declared.fault.TableFault.TheVariants as tables
use Rattle.document_reader.specs.declared.line_fault.LineFault.{LineFault}
use Rattle.document_reader.specs.declared.line_fault.LineFault.TheVariants as faults

abbrev pub point_of : Field → Field → Result Point (Spot Reason)
point_of a b = do
  speed ← number_in 0 MAX_POINT_SPEED a
  power ← number_in 0 MAX_POINT_POWER b
  Ok (record { speed = speed; power = power })

-- the point may stand after these, with its speed in this column
abbrev pub point_after : List Point → Point → ℕ → Result Entry (Spot Reason)
point_after points point column = do
  rising ← follows_points points point.speed column
  coarse ← demand (nat_le (hull_multiple (points ++ point ∷ [])) MAX_GAPS) column reasons.GapsTooFine
  Ok (PointEntry point)

-- a point line after these points
abbrev pub read_point_after : List Point → Field → Field → Result Entry (Spot Reason)
read_point_after points a b = do
  speed ← number_in 0 MAX_POINT_SPEED a
  power ← number_in 0 MAX_POINT_POWER b
  rising ← follows_points points speed a.column
  coarse ← demand (nat_le (hull_multiple (points ++ record { speed = speed; power = power } ∷ [])) MAX_GAPS) a.column reasons.GapsTooFine
  Ok (PointEntry (record { speed = speed; power = power }))

-- the fault of a line whose point a table refuses
abbrev pub table_fault : ℕ → TableFault → LineFault
table_fault column tables.NoIdle = faults.At column reasons.NoIdle
table_fault column tables.NotRising = faults.At column reasons.NotRising
table_fault column tables.GapsTooFine = faults.At column reasons.GapsTooFine
table_fault column tables.Memory = faults.Memory
