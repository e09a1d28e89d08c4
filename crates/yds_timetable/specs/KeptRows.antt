-- How a timetable is kept: one list of all shares and one of paces, and of each stretch the place of its pace and the range of its shares.
use Rattle.std.specs.Prelude.{◌≡◌, ℕ, ◌<◌, ◌≤◌, ◌++◌, List, Option, Some, None, length, map, slice_get}
use Rattle.std.specs.List.{All, slice_range}
use Rattle.yds_timetable.specs.declared.pace.Pace.{Pace}
use Rattle.yds_timetable.specs.declared.timetable.KeptRow.{KeptRow}
use Rattle.yds_timetable.specs.Shares.{JobShare}
use Rattle.yds_timetable.specs.Timetable.{Row, IsRow}

-- the pace at a place, and that there is one
abbrev pub pace_kept : List Pace → Option ℕ → Option Pace
pace_kept paces None = None
pace_kept paces (Some place) = slice_get paces place

abbrev pub IsPlaced : List Pace → Option ℕ → Type 0
IsPlaced paces None = Unit {0}
IsPlaced paces (Some place) = place < length paces

abbrev pub row_kept : List Pace → List JobShare → KeptRow → Row
row_kept paces shares kept = record {
  stretch = kept.stretch;
  pace = pace_kept paces kept.pace;
  shares = slice_range shares kept.first kept.end;
}

abbrev pub rows_kept : List Pace → List JobShare → List KeptRow → List Row
rows_kept paces shares rows = map (row_kept paces shares) rows

pub record IsKeptRow (paces : List Pace) (shares : List JobShare) (kept : KeptRow) : Type 0 where
  pub forward : kept.first ≤ kept.end
  pub within : kept.end ≤ length shares
  pub placed : IsPlaced paces kept.pace
  pub is_row : IsRow (row_kept paces shares kept)

abbrev pub AreKept : List Pace → List JobShare → List KeptRow → Type 0
AreKept paces shares rows = All (IsKeptRow paces shares) rows

-- The paces are those before and perhaps one more, and the pace is at its place among them.
pub record Keeps (paces : List Pace) (pace : Option Pace) (place : Option ℕ) (more : List Pace) : Type 0 where
  pub added : List Pace
  pub more_are : more ≡ paces ++ added
  pub placed : IsPlaced more place
  pub there : pace_kept more place ≡ pace
