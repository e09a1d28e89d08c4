-- Reading: a function from bytes to a document, or to the fault of the first line that has one. What a line needs of the
-- lines before it is a condition on the list of what they say.
use Rattle.std.specs.Prelude.{ℕ, ◌-◌, ◌*◌, ◌/◌, List, [], ◌∷◌, ◌++◌, length, codes, Option, Some, None, is_none, Result, Ok, Err, Bool, true, nat_lt, nat_le, ◌==◌, ◌||◌, if◌then◌else◌}
use Rattle.std.specs.List.{slice_index_or, filter_map, list_all}
use Rattle.std.specs.Str.{bytes_eq}
use Rattle.base.specs.declared.limits.TheConstants.{MAX_JOBS, MAX_TIME, MAX_WORK, MAX_RUN_SPEED, MAX_POINTS, MAX_POINT_SPEED, MAX_POINT_POWER, MAX_GAPS, MAX_SLOT_WORK, MAX_ENERGY, MAX_LEVEL_WORK, MAX_LEVEL_LENGTH, MAX_SLOTS, MAX_LEVELS, MAX_PIECES, MAX_MEMBERS, MAX_TICKS, MAX_GRID, MAX_ROUNDED}
use Rattle.base.specs.declared.number_fault.NumberFault.{NumberFault}
use Rattle.base.specs.declared.number_fault.NumberFault.TheVariants as faults
use Rattle.yds_model.specs.declared.reason.Reason.{Reason}
use Rattle.yds_model.specs.declared.reason.Reason.TheVariants as reasons
use Rattle.yds_model.specs.Scale.{Fraction, of_parts}
use Rattle.yds_model.specs.Table.{Point, point_at, hull_multiple}
use Rattle.yds_model.specs.Document.{Document}
use Rattle.base.specs.Lines.{Line, Field, lines_of, fields_of}
use Rattle.base.specs.Fields.{Fault, Spot, ◌>>=◌, refuse, demand, field_at, count_fields, in_field, on_line}
use Rattle.base.specs.Spelling.{number_at, is_name}
use Rattle.yds_model.specs.Spelling.{fraction_at}
use Rattle.yds_model.specs.Entry.{Entry, JobEntry, PointEntry, SlotEntry, LevelEntry, PieceEntry, MemberEntry, TicksEntry, GridEntry, EnergyEntry, name_said, point_said, slot_said, piece_said, member_said, is_level, ticks_said, grid_said, energy_said, job_named, works_of_job, document_said}

-- the kinds of line, and the word that each begins with
pub data Kind : Type 0 where
  JobLine : Kind
  PointLine : Kind
  SlotLine : Kind
  LevelLine : Kind
  PieceLine : Kind
  MemberLine : Kind
  TicksLine : Kind
  RunLine : Kind
  GridLine : Kind
  EnergyLine : Kind

abbrev pub kind_words : List (List ℕ × Kind)
kind_words =
    (codes "job", JobLine) ∷ (codes "point", PointLine) ∷ (codes "slot", SlotLine) ∷ (codes "level", LevelLine)
    ∷ (codes "piece", PieceLine) ∷ (codes "member", MemberLine) ∷ (codes "ticks", TicksLine) ∷ (codes "run", RunLine)
    ∷ (codes "grid", GridLine) ∷ (codes "energy", EnergyLine) ∷ []

abbrev pub kind_among : List (List ℕ × Kind) → List ℕ → Option Kind
kind_among [] word = None
kind_among (pair ∷ pairs) word = if bytes_eq pair.0 word then Some pair.1 else kind_among pairs word

abbrev pub kind_of : List ℕ → Option Kind
kind_of word = kind_among kind_words word

-- how many fields stand after the kind
abbrev pub fields_wanted : Kind → ℕ
fields_wanted JobLine = 4
fields_wanted PointLine = 2
fields_wanted SlotLine = 4
fields_wanted LevelLine = 2
fields_wanted PieceLine = 2
fields_wanted MemberLine = 1
fields_wanted TicksLine = 1
fields_wanted RunLine = 4
fields_wanted GridLine = 2
fields_wanted EnergyLine = 1

-- The line may stand after these: a piece and a member after some level, a run after the ticks, and there is one line at most
-- of ticks, of grid and of energy.
abbrev pub may_follow : Kind → List Entry → Bool
may_follow PieceLine earlier = nat_lt 0 (length (filter_map (λ entry. if is_level entry then Some entry else None) earlier))
may_follow MemberLine earlier = nat_lt 0 (length (filter_map (λ entry. if is_level entry then Some entry else None) earlier))
may_follow RunLine earlier = nat_lt 0 (length (filter_map ticks_said earlier))
may_follow TicksLine earlier = length (filter_map ticks_said earlier) == 0
may_follow GridLine earlier = length (filter_map grid_said earlier) == 0
may_follow EnergyLine earlier = length (filter_map energy_said earlier) == 0
may_follow _ earlier = true

-- how many lines of its kind stand before it (slots and runs are counted together), and how many there may be
abbrev pub has_room : Kind → List Entry → Bool
has_room JobLine earlier = nat_lt (length (filter_map name_said earlier)) MAX_JOBS
has_room PointLine earlier = nat_lt (length (filter_map point_said earlier)) MAX_POINTS
has_room SlotLine earlier = nat_lt (length (filter_map slot_said earlier)) MAX_SLOTS
has_room RunLine earlier = nat_lt (length (filter_map slot_said earlier)) MAX_SLOTS
has_room LevelLine earlier = nat_lt (length (filter_map (λ entry. if is_level entry then Some entry else None) earlier)) MAX_LEVELS
has_room PieceLine earlier = nat_lt (length (filter_map piece_said earlier)) MAX_PIECES
has_room MemberLine earlier = nat_lt (length (filter_map member_said earlier)) MAX_MEMBERS
has_room _ earlier = true

abbrev pub reason_of : NumberFault → Reason
reason_of faults.BadNumber = reasons.BadNumber
reason_of faults.OutOfRange = reasons.OutOfRange

abbrev pub number_in : ℕ → ℕ → Field → Result ℕ (Spot Reason)
number_in least most field = in_field reason_of field (number_at least most field.text)

abbrev pub fraction_in : ℕ → Field → Result Fraction (Spot Reason)
fraction_in most field = in_field reason_of field (fraction_at most field.text)

-- a name that no job has yet
abbrev pub new_name : List Entry → Field → Result (List ℕ) (Spot Reason)
new_name earlier field = do
  named ← demand (is_name field.text) field.column reasons.BadName
  new ← demand (is_none (job_named earlier field.text)) field.column reasons.DuplicateName
  Ok field.text

-- the number of the job of this name
abbrev pub known_job : List Entry → Field → Result ℕ (Spot Reason)
known_job earlier field = do
  named ← demand (is_name field.text) field.column reasons.BadName
  elim (job_named earlier field.text) [ None ↦ refuse field.column reasons.UnknownName | Some job ↦ Ok job ]

-- two fractions have one denominator, or one of them is whole
abbrev pub are_alike : Fraction → Fraction → Bool
are_alike x y = (x.den == y.den) || (x.den == 1) || (y.den == 1)

-- the work is alike with each earlier work of its job
abbrev pub fits_grain : List Entry → ℕ → Fraction → Bool
fits_grain earlier job work = list_all (are_alike work) (works_of_job job earlier)

abbrev pub read_job : List Entry → List Field → Result Entry (Spot Reason)
read_job earlier fields = do
  name ← new_name earlier (field_at fields 1)
  release ← number_in 0 MAX_TIME (field_at fields 2)
  deadline ← number_in 0 MAX_TIME (field_at fields 3)
  work ← number_in 0 MAX_WORK (field_at fields 4)
  window ← demand (nat_lt release deadline) (field_at fields 3).column reasons.EmptyWindow
  Ok (JobEntry name (record { release = release; deadline = deadline; work = work }))

-- the first point has the speed 0, and each later one is faster than the one before it
abbrev pub follows_points : List Point → ℕ → ℕ → Result Bool (Spot Reason)
follows_points [] speed column = demand (speed == 0) column reasons.NoIdle
follows_points (first ∷ others) speed column =
    demand (nat_lt (point_at (first ∷ others) (length others)).speed speed) column reasons.NotRising

abbrev pub read_point : List Entry → List Field → Result Entry (Spot Reason)
read_point earlier fields = do
  speed ← number_in 0 MAX_POINT_SPEED (field_at fields 1)
  power ← number_in 0 MAX_POINT_POWER (field_at fields 2)
  rising ← follows_points (filter_map point_said earlier) speed (field_at fields 1).column
  coarse ← demand (nat_le (hull_multiple (filter_map point_said earlier ++ record { speed = speed; power = power } ∷ [])) MAX_GAPS)
      (field_at fields 1).column reasons.GapsTooFine
  Ok (PointEntry (record { speed = speed; power = power }))

abbrev pub read_slot : List Entry → List Field → Result Entry (Spot Reason)
read_slot earlier fields = do
  job ← known_job earlier (field_at fields 1)
  from ← fraction_in MAX_TIME (field_at fields 2)
  to ← fraction_in MAX_TIME (field_at fields 3)
  work ← fraction_in MAX_SLOT_WORK (field_at fields 4)
  ends ← demand (are_alike from to) (field_at fields 3).column reasons.MixedEnds
  grain ← demand (fits_grain earlier job work) (field_at fields 4).column reasons.MixedGrain
  Ok (SlotEntry (record { job = job; from = from; to = to; work = work }))

abbrev pub read_level : List Field → Result Entry (Spot Reason)
read_level fields = do
  work ← number_in 1 MAX_LEVEL_WORK (field_at fields 1)
  length ← number_in 1 MAX_LEVEL_LENGTH (field_at fields 2)
  Ok (LevelEntry work length)

abbrev pub read_piece : List Field → Result Entry (Spot Reason)
read_piece fields = do
  from ← number_in 0 MAX_TIME (field_at fields 1)
  to ← number_in 0 MAX_TIME (field_at fields 2)
  Ok (PieceEntry (record { from = from; to = to }))

abbrev pub read_member : List Entry → List Field → Result Entry (Spot Reason)
read_member earlier fields = do
  job ← known_job earlier (field_at fields 1)
  Ok (MemberEntry job)

abbrev pub read_ticks : List Field → Result Entry (Spot Reason)
read_ticks fields = do
  ticks ← number_in 1 MAX_TICKS (field_at fields 1)
  Ok (TicksEntry ticks)

-- A run from one tick to another at a speed is the slot of that speed times its time.
abbrev pub read_run_at : ℕ → List Entry → List Field → Result Entry (Spot Reason)
read_run_at ticks earlier fields = do
  job ← known_job earlier (field_at fields 1)
  from ← number_in 0 (MAX_TIME * ticks) (field_at fields 2)
  to ← number_in 0 (MAX_TIME * ticks) (field_at fields 3)
  speed ← number_in 0 MAX_RUN_SPEED (field_at fields 4)
  small ← demand (nat_le (speed * (to - from) / ticks) MAX_SLOT_WORK) (field_at fields 4).column reasons.OutOfRange
  grain ← demand (fits_grain earlier job (of_parts (speed * (to - from)) ticks)) (field_at fields 4).column reasons.MixedGrain
  Ok (SlotEntry (record { job = job; from = of_parts from ticks; to = of_parts to ticks; work = of_parts (speed * (to - from)) ticks }))

-- by the ticks that the earlier line has said
abbrev pub read_run : List Entry → List Field → Result Entry (Spot Reason)
read_run earlier fields = read_run_at (slice_index_or (filter_map ticks_said earlier) 0 1) earlier fields

abbrev pub read_grid : List Field → Result Entry (Spot Reason)
read_grid fields = do
  grid ← number_in 1 MAX_GRID (field_at fields 1)
  rounded ← number_in 0 MAX_ROUNDED (field_at fields 2)
  Ok (GridEntry (record { grid = grid; rounded = rounded }))

abbrev pub read_energy : List Field → Result Entry (Spot Reason)
read_energy fields = do
  energy ← fraction_in MAX_ENERGY (field_at fields 1)
  Ok (EnergyEntry energy)

abbrev pub read_kind : Kind → List Entry → List Field → Result Entry (Spot Reason)
read_kind JobLine earlier fields = read_job earlier fields
read_kind PointLine earlier fields = read_point earlier fields
read_kind SlotLine earlier fields = read_slot earlier fields
read_kind LevelLine earlier fields = read_level fields
read_kind PieceLine earlier fields = read_piece fields
read_kind MemberLine earlier fields = read_member earlier fields
read_kind TicksLine earlier fields = read_ticks fields
read_kind RunLine earlier fields = read_run earlier fields
read_kind GridLine earlier fields = read_grid fields
read_kind EnergyLine earlier fields = read_energy fields

-- A line, by its fields of which there is at least one, after lines that said `earlier`: the faults are tried in this order.
abbrev pub read_fields : List Entry → List Field → Result Entry (Spot Reason)
read_fields earlier fields =
    elim (kind_of (field_at fields 0).text) [
      | None ↦ refuse (field_at fields 0).column reasons.UnknownKind
      | Some kind ↦ do
        placed ← demand (may_follow kind earlier) (field_at fields 0).column reasons.Misplaced
        room ← demand (has_room kind earlier) (field_at fields 0).column reasons.TooMany
        counted ← count_fields reasons.FieldCount (fields_wanted kind) fields
        read_kind kind earlier fields
    ]

-- a line without fields is skipped, and a line whose first field begins with `#` (35)
abbrev pub begins_comment : List Field → Bool
begins_comment [] = true
begins_comment (field ∷ fields) = slice_index_or field.text 0 0 == 35

abbrev pub is_skipped : Line → Bool
is_skipped line = begins_comment (fields_of line.text)

abbrev pub read_line : List Entry → Line → Result Entry (Fault Reason)
read_line earlier line = on_line line.number (read_fields earlier (fields_of line.text))

-- the lines that aren't skipped
abbrev pub live_lines : List Line → List Line
live_lines lines = filter_map (λ line. if is_skipped line then None else Some line) lines

-- what the lines say after `earlier`, or the fault of the first that has one
abbrev pub read_after : List Entry → List Line → Result (List Entry) (Fault Reason)
read_after earlier [] = Ok earlier
read_after earlier (line ∷ lines) =
    elim (read_line earlier line) [ Ok entry ↦ read_after (earlier ++ entry ∷ []) lines | Err fault ↦ Err fault ]

abbrev pub reading : List ℕ → Result Document (Fault Reason)
reading bytes =
    elim (read_after [] (live_lines (lines_of bytes))) [ Ok entries ↦ Ok (document_said entries) | Err fault ↦ Err fault ]
