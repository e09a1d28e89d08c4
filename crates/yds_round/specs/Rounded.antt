-- What is written for the stretches of a timetable.
use Rattle.std.specs.Prelude.{ℕ, zero, suc, List, [], ◌++◌, Option, Some, None}
use Rattle.std.specs.List.{slice_index_or}
use Rattle.yds_model.specs.Slot.{WrittenSlot}
use Rattle.yds_timetable.specs.Timetable.{Row, row_at, row_slots}
use Rattle.yds_round.specs.declared.split.Split.{Split}
use Rattle.yds_round.specs.LevelPace.{pace_at}
use Rattle.yds_round.specs.Written.{written_at}

-- for a stretch, at the pace of the level with this number; nothing where it is idle
abbrev pub written_row : List (Option Split) → Row → Option ℕ → List WrittenSlot
written_row paces row None = []
written_row paces row (Some number) = written_at row.stretch row.shares (row_slots row) (pace_at paces number)

abbrev pub level_number_at : List (Option ℕ) → ℕ → Option ℕ
level_number_at numbers place = slice_index_or numbers place None

-- for the first so many stretches
abbrev pub written_to : List (Option Split) → List Row → List (Option ℕ) → ℕ → List WrittenSlot
written_to paces rows numbers zero = []
written_to paces rows numbers (suc k) = written_to paces rows numbers k ++ written_row paces (row_at rows k) (level_number_at numbers k)
