-- The laws by which the text of a document is read back. Each is the contract of a public function of this crate.
use Rattle.std.specs.Prelude.{◌≡◌, ℕ, ◌*◌, ◌≤◌, List, [], length, Some, None, Ok, IsTrue}
use Rattle.base.specs.declared.limits.TheConstants.{MAX_JOBS, MAX_ENERGY, MAX_INPUT}
use Rattle.yds_model.specs.Job.{Job, IsJob}
use Rattle.yds_model.specs.Scale.{Fraction}
use Rattle.yds_model.specs.Slot.{WrittenSlot}
use Rattle.yds_model.specs.Piece.{Piece}
use Rattle.yds_model.specs.Level.{Level, all_members, all_pieces}
use Rattle.yds_model.specs.Table.{Point}
use Rattle.yds_model.specs.Document.{Document, Grid, name_at}
use Rattle.base.specs.Spelling.{is_name}
use Rattle.yds_model.specs.Text.{job_line, point_line, slot_line, piece_line, member_line, level_lines, grid_lines, energy_lines, canonical_text}
use Rattle.yds_model.specs.Reading.{reading}
use Rattle.yds_model.specs.Within.{IsFraction, IsPoint, IsSlot, IsPiece, IsLevel, IsGrid, IsDocument}

-- jobs and slots, and nothing else
pub record HasJobsAndSlots (document : Document) : Type 0 where
  pub no_points : document.points ≡ []
  pub no_levels : document.levels ≡ []
  pub no_grid : document.grid ≡ None
  pub no_energy : document.energy ≡ None

-- The text of a document of jobs and slots is read as that document.
abbrev pub JobsAndSlotsAreRead : Type 0
JobsAndSlotsAreRead = (document : Document) → IsDocument document → HasJobsAndSlots document → reading (canonical_text document) ≡ Ok document

-- The text of a document within the limits is read as that document.
abbrev pub PrintedIsRead : Type 0
PrintedIsRead = (document : Document) → IsDocument document → reading (canonical_text document) ≡ Ok document

-- What is read is within the limits.
abbrev pub ReadIsWithinLimits : Type 0
ReadIsWithinLimits = (bytes : List ℕ) (document : Document) → reading bytes ≡ Ok document → IsDocument document

-- So the text of what is read is read as the same.
abbrev pub CanonicalTextIsRead : Type 0
CanonicalTextIsRead = (bytes : List ℕ) (document : Document) → reading bytes ≡ Ok document → reading (canonical_text document) ≡ Ok document

-- Each line of a text is short: its greatest length in bytes, the line feed included.
pub record LinesAreShort : Type 0 where
  pub job : (name : List ℕ) (job : Job) → IsTrue (is_name name) → IsJob job → length (job_line name job) ≤ 99
  pub point : (point : Point) → IsPoint point → length (point_line point) ≤ 19
  pub slot : (names : List (List ℕ)) (slot : WrittenSlot) → IsTrue (is_name (name_at names slot.job)) → IsSlot slot → length (slot_line names slot) ≤ 226
  -- the level's own line, without those of its pieces and members
  pub level : (level : Level) → IsLevel level → length (level_lines [] (record { work = level.work; length = level.length; pieces = []; members = [] })) ≤ 28
  pub piece : (piece : Piece) → IsPiece piece → length (piece_line piece) ≤ 28
  pub member : (names : List (List ℕ)) (job : ℕ) → IsTrue (is_name (name_at names job)) → length (member_line names job) ≤ 72
  pub grid : (grid : Grid) → IsGrid grid → length (grid_lines (Some grid)) ≤ 21
  pub energy : (energy : Fraction) → IsFraction MAX_ENERGY energy → length (energy_lines (Some energy)) ≤ 67

-- The text of a document may be read, where for each job that a document may have it has at most five slots and three pieces, and
-- at most one level and one member.
abbrev pub TextIsShort : Type 0
TextIsShort = (document : Document) → IsDocument document → length document.slots ≤ 5 * MAX_JOBS → length document.levels ≤ MAX_JOBS →
    length (all_pieces document.levels) ≤ 3 * MAX_JOBS → length (all_members document.levels) ≤ MAX_JOBS → length (canonical_text document) ≤ MAX_INPUT
