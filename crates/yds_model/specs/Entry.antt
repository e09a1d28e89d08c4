-- What a line that is read says, and what the lines before it say together.
use Rattle.std.specs.Prelude.{ℕ, List, [], ◌∷◌, length, Option, Some, None, Bool, true, false, ◌==◌, not, if◌then◌else◌}
use Rattle.std.specs.List.{filter_map, position, take_while}
use Rattle.std.specs.Str.{bytes_eq}
use Rattle.yds_model.specs.Job.{Job}
use Rattle.yds_model.specs.Scale.{Fraction}
use Rattle.yds_model.specs.Slot.{WrittenSlot}
use Rattle.yds_model.specs.Piece.{Piece}
use Rattle.yds_model.specs.Level.{Level}
use Rattle.yds_model.specs.Table.{Point}
use Rattle.yds_model.specs.Document.{Document, Grid}

-- A slot or run line says a slot; jobs are named by their numbers.
pub data Entry : Type 0 where
  JobEntry : (name : List ℕ) (job : Job) → Entry
  PointEntry : (point : Point) → Entry
  SlotEntry : (slot : WrittenSlot) → Entry
  LevelEntry : (work length : ℕ) → Entry
  PieceEntry : (piece : Piece) → Entry
  MemberEntry : (job : ℕ) → Entry
  TicksEntry : (ticks : ℕ) → Entry
  GridEntry : (grid : Grid) → Entry
  EnergyEntry : (energy : Fraction) → Entry

abbrev pub name_said : Entry → Option (List ℕ)
name_said (JobEntry name job) = Some name
name_said _ = None

abbrev pub job_said : Entry → Option Job
job_said (JobEntry name job) = Some job
job_said _ = None

abbrev pub point_said : Entry → Option Point
point_said (PointEntry point) = Some point
point_said _ = None

abbrev pub slot_said : Entry → Option WrittenSlot
slot_said (SlotEntry slot) = Some slot
slot_said _ = None

abbrev pub piece_said : Entry → Option Piece
piece_said (PieceEntry piece) = Some piece
piece_said _ = None

abbrev pub member_said : Entry → Option ℕ
member_said (MemberEntry job) = Some job
member_said _ = None

abbrev pub ticks_said : Entry → Option ℕ
ticks_said (TicksEntry ticks) = Some ticks
ticks_said _ = None

abbrev pub grid_said : Entry → Option Grid
grid_said (GridEntry grid) = Some grid
grid_said _ = None

abbrev pub energy_said : Entry → Option Fraction
energy_said (EnergyEntry energy) = Some energy
energy_said _ = None

-- the first of these, if there is one
abbrev pub first_of_them : {A : Type 0} → List A → Option A
first_of_them [] = None
first_of_them (x ∷ xs) = Some x

-- the number of the job of this name
abbrev pub job_named : List Entry → List ℕ → Option ℕ
job_named entries name = position (λ other. bytes_eq other name) (filter_map name_said entries)

-- the works of a job, in order of the slots and runs
abbrev pub works_of_job : ℕ → List Entry → List Fraction
works_of_job job entries =
    filter_map (λ slot. if slot.job == job then Some slot.work else None) (filter_map slot_said entries)

abbrev pub is_level : Entry → Bool
is_level (LevelEntry work length) = true
is_level _ = false

-- the lines before the next level
abbrev pub until_level : List Entry → List Entry
until_level entries = take_while (λ entry. not (is_level entry)) entries

-- A level has the pieces and the members whose lines stand between its own and the next level's.
abbrev pub levels_said : List Entry → List Level
levels_said [] = []
levels_said (LevelEntry work length ∷ entries) = record {
  work = work;
  length = length;
  pieces = filter_map piece_said (until_level entries);
  members = filter_map member_said (until_level entries);
} ∷ levels_said entries
levels_said (_ ∷ entries) = levels_said entries

-- the document that the lines say
abbrev pub document_said : List Entry → Document
document_said entries = record {
  names = filter_map name_said entries;
  jobs = filter_map job_said entries;
  points = filter_map point_said entries;
  slots = filter_map slot_said entries;
  levels = levels_said entries;
  grid = first_of_them (filter_map grid_said entries);
  energy = first_of_them (filter_map energy_said entries);
}
