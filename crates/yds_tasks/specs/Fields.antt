-- What a reader of a field or of a line returned, against what the definition of reading says there; and what a line says by
-- the tasks before it.
use Rattle.std.specs.Prelude.{◌≡◌, ℕ, List, Result, Ok, Err, Bool, not, nat_le}
use Rattle.std.specs.List.{list_any}
use Rattle.std.specs.Str.{bytes_eq}
use Rattle.base.specs.declared.limits.TheConstants.{MAX_JOBS, MAX_TIME, MAX_WORK}
use Rattle.yds_model.specs.declared.task_reason.TaskReason.{TaskReason}
use Rattle.yds_model.specs.declared.task_reason.TaskReason.TheVariants as reasons
use Rattle.base.specs.Lines.{Field}
use Rattle.base.specs.Fields.{Spot, ◌>>=◌, demand}
use Rattle.yds_model.specs.Tasks.{Task, TaskSet}
use Rattle.yds_model.specs.TaskReading.{is_task_name, task_number_in, count_of_all}
use Rattle.yds_text.specs.declared.count.FieldCount.{FieldCount}
use Rattle.yds_tasks.specs.declared.field_fault.FieldFault.{FieldFault}
use Rattle.yds_tasks.specs.declared.line_fault.LineFault.{LineFault}
use Rattle.yds_tasks.specs.declared.line_fault.LineFault.TheVariants as faults
use Rattle.yds_tasks.specs.KeptTasks.{with_task}

-- the definition says this fault, unless memory ran out
abbrev pub Fails : {Y : Type 0} → LineFault → Result Y (Spot TaskReason) → Type 0
Fails (faults.At column reason) read = read ≡ Err (record { column = column; reason = reason })
Fails faults.Memory read = Unit {0}

-- what a reader of fields returned, seen by `view`, is what the definition says
abbrev pub Gives : {X Y : Type 0} → (X → Y) → Result X FieldFault → Result Y (Spot TaskReason) → Type 0
Gives view (Ok x) read = read ≡ Ok (view x)
Gives view (Err fault) read = read ≡ Err (record { column = fault.column; reason = fault.reason })

-- the fault of a line whose fields have this one
abbrev pub task_fault_of : FieldFault → LineFault
task_fault_of field = faults.At field.column field.reason

-- the fault of a line of too many or too few fields
abbrev pub task_count_fault : FieldCount → FieldFault
task_count_fault count = record { column = count.column; reason = reasons.FieldCount }

-- a task of this name is there
abbrev pub has_name : TaskSet → List ℕ → Bool
has_name set name = list_any (λ task. bytes_eq task.name name) set.tasks

-- a name that is short enough, and that no task has yet
abbrev pub task_name_of : TaskSet → Field → Result (List ℕ) (Spot TaskReason)
task_name_of set field = do
  named ← demand (is_task_name field.text) field.column reasons.BadName
  new ← demand (not (has_name set field.text)) field.column reasons.DuplicateName
  Ok field.text

-- a task whose jobs have room beside those of the others; else its period is named
abbrev pub task_within : TaskSet → Field → Task → Result Task (Spot TaskReason)
task_within set period task = do
  few ← demand (nat_le (count_of_all (with_task set task)) MAX_JOBS) period.column reasons.TooManyJobs
  Ok task

-- what the line of a task says, by its fields
abbrev pub task_of : TaskSet → Field → Field → Field → Field → Field → Result Task (Spot TaskReason)
task_of set a b c d e = do
  name ← task_name_of set a
  offset ← task_number_in 0 MAX_TIME b
  period ← task_number_in 1 MAX_TIME c
  deadline ← task_number_in 1 MAX_TIME d
  work ← task_number_in 0 MAX_WORK e
  task_within set c (record { name = name; offset = offset; period = period; deadline = deadline; work = work })
