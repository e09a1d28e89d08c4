-- Reading tasks: a function from bytes to a set of tasks, or to the fault of the first line that has one. Lines, fields, numbers
-- and names are those of documents.
use Rattle.std.specs.Prelude.{ℕ, List, [], ◌∷◌, ◌++◌, length, codes, sum_by, Option, Some, None, Result, Ok, Err, Bool, nat_lt, nat_le, ◌==◌, ◌&&◌, not, if◌then◌else◌}
use Rattle.std.specs.List.{filter_map, list_any}
use Rattle.std.specs.Str.{bytes_eq}
use Rattle.base.specs.declared.limits.TheConstants.{MAX_JOBS, MAX_TIME, MAX_WORK, MAX_TASKS, MAX_TASK_NAME}
use Rattle.base.specs.declared.number_fault.NumberFault.{NumberFault}
use Rattle.base.specs.declared.number_fault.NumberFault.TheVariants as faults
use Rattle.yds_model.specs.declared.task_reason.TaskReason.{TaskReason}
use Rattle.yds_model.specs.declared.task_reason.TaskReason.TheVariants as reasons
use Rattle.base.specs.Lines.{Line, Field, lines_of, fields_of}
use Rattle.base.specs.Fields.{Fault, Spot, ◌>>=◌, refuse, demand, field_at, count_fields, in_field, on_line}
use Rattle.base.specs.Spelling.{number_at, is_name}
use Rattle.yds_model.specs.Entry.{first_of_them}
use Rattle.yds_model.specs.Reading.{live_lines}
use Rattle.yds_model.specs.Tasks.{Task, TaskSet, count_of_jobs, horizon_of}

-- what a line says
pub data TaskEntry : Type 0 where
  HorizonEntry : (horizon : ℕ) → TaskEntry
  TaskEntryOf : (task : Task) → TaskEntry

abbrev pub horizon_said : TaskEntry → Option ℕ
horizon_said (HorizonEntry horizon) = Some horizon
horizon_said (TaskEntryOf task) = None

abbrev pub task_said : TaskEntry → Option Task
task_said (HorizonEntry horizon) = None
task_said (TaskEntryOf task) = Some task

-- the tasks that the lines say together
abbrev pub tasks_said : List TaskEntry → TaskSet
tasks_said entries = record { horizon = first_of_them (filter_map horizon_said entries); tasks = filter_map task_said entries }

abbrev pub task_reason_of : NumberFault → TaskReason
task_reason_of faults.BadNumber = reasons.BadNumber
task_reason_of faults.OutOfRange = reasons.OutOfRange

abbrev pub task_number_in : ℕ → ℕ → Field → Result ℕ (Spot TaskReason)
task_number_in least most field = in_field task_reason_of field (number_at least most field.text)

-- a name that is short enough for a dot and a number after it
abbrev pub is_task_name : List ℕ → Bool
is_task_name text = is_name text && nat_le (length text) MAX_TASK_NAME

abbrev pub has_task_named : List TaskEntry → List ℕ → Bool
has_task_named entries name = list_any (λ task. bytes_eq task.name name) (filter_map task_said entries)

abbrev pub new_task_name : List TaskEntry → Field → Result (List ℕ) (Spot TaskReason)
new_task_name earlier field = do
  named ← demand (is_task_name field.text) field.column reasons.BadName
  new ← demand (not (has_task_named earlier field.text)) field.column reasons.DuplicateName
  Ok field.text

-- there is one horizon line at most
abbrev pub read_horizon : List TaskEntry → List Field → Result TaskEntry (Spot TaskReason)
read_horizon earlier fields = do
  placed ← demand (length (filter_map horizon_said earlier) == 0) (field_at fields 0).column reasons.Misplaced
  counted ← count_fields reasons.FieldCount 1 fields
  horizon ← task_number_in 1 MAX_TIME (field_at fields 1)
  Ok (HorizonEntry horizon)

-- the jobs of these tasks, together
abbrev pub count_of_all : TaskSet → ℕ
count_of_all set = sum_by (count_of_jobs (horizon_of set)) set.tasks

-- a task stands after the horizon
abbrev pub read_task : List TaskEntry → List Field → Result TaskEntry (Spot TaskReason)
read_task earlier fields = do
  placed ← demand (nat_lt 0 (length (filter_map horizon_said earlier))) (field_at fields 0).column reasons.Misplaced
  room ← demand (nat_lt (length (filter_map task_said earlier)) MAX_TASKS) (field_at fields 0).column reasons.TooMany
  counted ← count_fields reasons.FieldCount 5 fields
  name ← new_task_name earlier (field_at fields 1)
  offset ← task_number_in 0 MAX_TIME (field_at fields 2)
  period ← task_number_in 1 MAX_TIME (field_at fields 3)
  deadline ← task_number_in 1 MAX_TIME (field_at fields 4)
  work ← task_number_in 0 MAX_WORK (field_at fields 5)
  few ← demand (nat_le (count_of_all (tasks_said (earlier ++ TaskEntryOf (record { name = name; offset = offset; period = period; deadline = deadline; work = work }) ∷ []))) MAX_JOBS)
      (field_at fields 3).column reasons.TooManyJobs
  Ok (TaskEntryOf (record { name = name; offset = offset; period = period; deadline = deadline; work = work }))

-- a line, by its fields of which there is at least one, after lines that said `earlier`
abbrev pub read_task_fields : List TaskEntry → List Field → Result TaskEntry (Spot TaskReason)
read_task_fields earlier fields =
    if bytes_eq (field_at fields 0).text (codes "horizon") then read_horizon earlier fields
    else (if bytes_eq (field_at fields 0).text (codes "task") then read_task earlier fields
    else refuse (field_at fields 0).column reasons.UnknownKind)

abbrev pub read_task_line : List TaskEntry → Line → Result TaskEntry (Fault TaskReason)
read_task_line earlier line = on_line line.number (read_task_fields earlier (fields_of line.text))

abbrev pub read_tasks_after : List TaskEntry → List Line → Result (List TaskEntry) (Fault TaskReason)
read_tasks_after earlier [] = Ok earlier
read_tasks_after earlier (line ∷ lines) =
    elim (read_task_line earlier line) [ Ok entry ↦ read_tasks_after (earlier ++ entry ∷ []) lines | Err fault ↦ Err fault ]

abbrev pub task_reading : List ℕ → Result TaskSet (Fault TaskReason)
task_reading bytes =
    elim (read_tasks_after [] (live_lines (lines_of bytes))) [ Ok entries ↦ Ok (tasks_said entries) | Err fault ↦ Err fault ]
