-- What the lines before a line said together, as it is kept while tasks are read, and what a reader of lines returned.
use Rattle.std.specs.Prelude.{◌≡◌, ℕ, List, [], ◌∷◌, ◌++◌, Result, Ok, Err}
use Rattle.std.specs.Str.{bytes_eq}
use Rattle.indexmap.specs.IndexSet.{contains_by}
use Rattle.yds_model.specs.declared.task_reason.TaskReason.{TaskReason}
use Rattle.base.specs.Lines.{Line}
use Rattle.base.specs.Fields.{Fault, Spot}
use Rattle.yds_model.specs.Reading.{live_lines}
use Rattle.yds_model.specs.Tasks.{TaskSet}
use Rattle.yds_model.specs.TaskReading.{TaskEntry, tasks_said, read_tasks_after}
use Rattle.yds_tasks.specs.declared.draft.Draft.{Draft}
use Rattle.yds_tasks.specs.declared.field_fault.FieldFault.{FieldFault}
use Rattle.yds_tasks.specs.declared.line_fault.LineFault.{LineFault}
use Rattle.yds_tasks.specs.declared.fault.TaskFault.{TaskFault}
use Rattle.yds_tasks.specs.declared.fault.TaskFault.TheVariants as faults
use Rattle.yds_tasks.specs.Fields.{Fails, has_name}

-- a draft keeps the names of its tasks, and no others
abbrev pub IsDraft : Draft → Type 0
IsDraft draft = (name : List ℕ) → contains_by (λ key. bytes_eq name key.now) draft.names ≡ has_name draft.set name

-- the draft holds what these entries said
abbrev pub Holds : Draft → List TaskEntry → Type 0
Holds draft entries = tasks_said entries ≡ draft.set

-- after whatever entries the draft held, it holds one more
abbrev pub Takes : Draft → Draft → TaskEntry → Type 0
Takes old new entry = (earlier : List TaskEntry) → Holds old earlier → Holds new (earlier ++ entry ∷ [])

-- the definition says an entry, and the draft holds it too
pub record HoldsMore (read : Result TaskEntry (Spot TaskReason)) (draft : Draft) (earlier : List TaskEntry) : Type 0 where
  pub entry : TaskEntry
  pub said : read ≡ Ok entry
  pub holds : Holds draft (earlier ++ entry ∷ [])

abbrev pub Tells : Result (Unit {0}) LineFault → Result TaskEntry (Spot TaskReason) → Draft → List TaskEntry → Type 0
Tells (Ok done) read draft earlier = HoldsMore read draft earlier
Tells (Err fault) read draft earlier = Fails fault read

-- the same of a line that is read without memory
abbrev pub TellsField : Result (Unit {0}) FieldFault → Result TaskEntry (Spot TaskReason) → Draft → List TaskEntry → Type 0
TellsField (Ok done) read draft earlier = HoldsMore read draft earlier
TellsField (Err fault) read draft earlier = read ≡ Err (record { column = fault.column; reason = fault.reason })

-- the definition says this fault, unless memory ran out
abbrev pub TaskFails : {Y : Type 0} → TaskFault → Result Y (Fault TaskReason) → Type 0
TaskFails (faults.At line column reason) read = read ≡ Err (record { line = line; column = column; reason = reason })
TaskFails faults.Memory read = Unit {0}

-- the bytes are read as these tasks, or the definition says the fault
abbrev pub GivesTasks : Result TaskSet TaskFault → Result TaskSet (Fault TaskReason) → Type 0
GivesTasks (Ok set) read = read ≡ Ok set
GivesTasks (Err fault) read = TaskFails fault read

-- after a line the draft holds what the lines so far said
pub record HoldsOn (line : Line) (earlier : List TaskEntry) (draft : Draft) : Type 0 where
  pub entries : List TaskEntry
  pub holds : Holds draft entries
  pub same : (lines : List Line) → read_tasks_after earlier (live_lines (line ∷ lines)) ≡ read_tasks_after entries (live_lines lines)

abbrev pub TellsTaskLine : Result (Unit {0}) TaskFault → Line → List TaskEntry → Draft → Type 0
TellsTaskLine (Ok done) line earlier draft = HoldsOn line earlier draft
TellsTaskLine (Err fault) line earlier draft = (lines : List Line) → TaskFails fault (read_tasks_after earlier (live_lines (line ∷ lines)))
