-- What the program keeps of each part of a document, and a document within the limits.
use Rattle.std.specs.Prelude.{◌≡◌, ℕ, ◌<◌, ◌≤◌, ◌⊎◌, List, [], length, take, MatchOption, IsTrue}
use Rattle.std.specs.List.{All}
use Rattle.base.specs.declared.limits.TheConstants.{MAX_JOBS, MAX_TIME, MAX_POINTS, MAX_POINT_SPEED, MAX_POINT_POWER, MAX_GAPS, MAX_DENOMINATOR, MAX_SLOT_WORK, MAX_ENERGY, MAX_LEVEL_WORK, MAX_LEVEL_LENGTH, MAX_SLOTS, MAX_LEVELS, MAX_PIECES, MAX_MEMBERS, MAX_GRID, MAX_ROUNDED}
use Rattle.yds_model.specs.Job.{Job, IsJob}
use Rattle.yds_model.specs.Scale.{Fraction, AreAlike}
use Rattle.yds_model.specs.Slot.{WrittenSlot}
use Rattle.yds_model.specs.Piece.{Piece}
use Rattle.yds_model.specs.Level.{Level, all_members, all_pieces}
use Rattle.yds_model.specs.Table.{Point, IsTable, hull_multiple}
use Rattle.yds_model.specs.Audit.{AreInGrain}
use Rattle.yds_model.specs.Document.{Document, Grid, name_at}
use Rattle.base.specs.Spelling.{is_name}
use Rattle.yds_model.specs.Text.{canonical_text}

-- a fraction as the program keeps it: below one beside its whole part, and with the denominator 1 where that is all
pub record IsFraction (most : ℕ) (x : Fraction) : Type 0 where
  pub whole_in_range : x.whole ≤ most
  pub below_one : x.num < x.den
  pub den_in_range : x.den ≤ MAX_DENOMINATOR
  pub whole_is_plain : x.num ≡ 0 → x.den ≡ 1

-- no two names are the same
abbrev pub AreDifferentNames : List (List ℕ) → Type 0
AreDifferentNames names = (i j : ℕ) → i < length names → j < length names → name_at names i ≡ name_at names j → i ≡ j

pub record IsPoint (point : Point) : Type 0 where
  pub speed_in_range : point.speed ≤ MAX_POINT_SPEED
  pub power_in_range : point.power ≤ MAX_POINT_POWER

pub record IsSlot (slot : WrittenSlot) : Type 0 where
  pub from : IsFraction MAX_TIME slot.from
  pub to : IsFraction MAX_TIME slot.to
  pub work : IsFraction MAX_SLOT_WORK slot.work
  pub ends_alike : AreAlike slot.from slot.to

pub record IsPiece (piece : Piece) : Type 0 where
  pub from_in_range : piece.from ≤ MAX_TIME
  pub to_in_range : piece.to ≤ MAX_TIME

pub record IsLevel (level : Level) : Type 0 where
  pub has_work : 1 ≤ level.work
  pub work_in_range : level.work ≤ MAX_LEVEL_WORK
  pub has_length : 1 ≤ level.length
  pub length_in_range : level.length ≤ MAX_LEVEL_LENGTH
  pub pieces : All IsPiece level.pieces

pub record IsGrid (grid : Grid) : Type 0 where
  pub some : 1 ≤ grid.grid
  pub grid_in_range : grid.grid ≤ MAX_GRID
  pub rounded_in_range : grid.rounded ≤ MAX_ROUNDED

-- jobs, with a name for each
pub record AreNamedJobs (names : List (List ℕ)) (jobs : List Job) : Type 0 where
  pub one_name_each : length names ≡ length jobs
  pub few : length jobs ≤ MAX_JOBS
  pub names_fit : All (λ name. IsTrue (is_name name)) names
  pub different : AreDifferentNames names
  pub jobs_fit : All IsJob jobs

-- no points, or a table of them; the gaps of the hull are in range for each front of the points
pub record ArePoints (points : List Point) : Type 0 where
  pub few : length points ≤ MAX_POINTS
  pub fit : All IsPoint points
  pub table : (points ≡ []) ⊎ IsTable points
  pub gaps_in_range : (n : ℕ) → hull_multiple (take n points) ≤ MAX_GAPS

-- slots of so many jobs
pub record AreSlotsOf (count : ℕ) (slots : List WrittenSlot) : Type 0 where
  pub few : length slots ≤ MAX_SLOTS
  pub fit : All IsSlot slots
  pub known : All (λ slot. slot.job < count) slots
  pub grains : AreInGrain slots

-- levels of so many jobs
pub record AreLevelsOf (count : ℕ) (levels : List Level) : Type 0 where
  pub few : length levels ≤ MAX_LEVELS
  pub few_pieces : length (all_pieces levels) ≤ MAX_PIECES
  pub few_members : length (all_members levels) ≤ MAX_MEMBERS
  pub fit : All IsLevel levels
  pub known : All (λ job. job < count) (all_members levels)

-- A document within the limits: what the program keeps of one.
pub record IsDocument (document : Document) : Type 0 where
  pub jobs : AreNamedJobs document.names document.jobs
  pub points : ArePoints document.points
  pub slots : AreSlotsOf (length document.names) document.slots
  pub levels : AreLevelsOf (length document.names) document.levels
  pub grid : MatchOption document.grid (Unit {0}) IsGrid
  pub energy : MatchOption document.energy (Unit {0}) (IsFraction MAX_ENERGY)

-- the text is the canonical one of a document within the limits, so it is read again as that document
pub record IsTextOf (document : Document) (text : List ℕ) : Type 0 where
  pub possible : IsDocument document
  pub written : text ≡ canonical_text document
