-- The tasks that `--tasks` lists: `NAME:DEADLINE[:APART[:PERIOD]]` or `PID=NAME:DEADLINE[:APART[:PERIOD]]`, parted by commas, in milliseconds.
use Rattle.std.specs.Prelude.{ℕ, ◌+◌, List, [], ◌∷◌, length, Bool, false, ◌==◌, ◌&&◌, nat_le, nat_lt, if◌then◌else◌, codes, Option, Some, None, Result, Ok, Err}
use Rattle.std.specs.List.{list_any, slice_split, before_first, after_first}
use Rattle.std.specs.Str.{bytes_eq}
use Rattle.base.specs.Spelling.{number_at, is_name}
use Rattle.yds_kernel.specs.declared.limits.TheConstants.{MAX_NUMBER}
use Rattle.yds_trace.specs.declared.limits.TheConstants.{MAX_DEADLINE}
use Rattle.yds_trace.specs.declared.job.Pace.{Pace}
use Rattle.yds_trace.specs.Asked.{Which, Named, Numbered, Task}
use Rattle.yds_trace_words.specs.declared.limits.TheConstants.{MAX_LABEL, MAX_TASKS}
use Rattle.yds_trace_words.specs.declared.fault.Reason.{Reason}
use Rattle.yds_trace_words.specs.declared.fault.Reason.TheVariants as reasons
use Rattle.yds_trace_words.specs.declared.fault.Place.TheVariants as places
use Rattle.yds_trace_words.specs.declared.letter.Letter.{Letter}
use Rattle.yds_trace_words.specs.declared.letter.Sign.TheVariants as signs
use Rattle.yds_trace_words.specs.Words.{WordFault, refuse, ◌>>=◌, and_behind}
use Rattle.yds_trace_words.specs.Decimal.{decimal_at}
use Rattle.yds_trace_words.specs.Letters.{letters_of, is_at, text_of}

-- the task at this place of the list is refused
abbrev pub refuse_task : {A : Type 0} → ℕ → Reason → Result A WordFault
refuse_task place reason = Err (record { word = codes "--tasks"; place = Some (places.Task place); reason = reason })

-- what there is, or the task is refused
abbrev pub known : {A : Type 0} → ℕ → Reason → Option A → Result A WordFault
known place reason None = refuse_task place reason
known place reason (Some x) = Ok x

abbrev pub number_known : {E : Type 0} → ℕ → Reason → Result ℕ E → Result ℕ WordFault
number_known place reason (Ok x) = Ok x
number_known place reason (Err e) = refuse_task place reason

-- # One task

-- A label with a point and the number of a job behind it is the name of a job.
abbrev pub is_label : List ℕ → Bool
is_label text = is_name text && nat_le (length text) MAX_LABEL

abbrev pub label_at : ℕ → List ℕ → Result (List ℕ) WordFault
label_at place text = if is_label text then Ok text else refuse_task place reasons.Label

-- which thread, and how its jobs are called
pub record Called : Type 0 where
  pub thread : Which
  pub label : List ℕ

-- Number 0 is that of each processor's idle thread, which is no task.
abbrev pub pid_at : ℕ → List Letter → Result ℕ WordFault
pid_at place letters = number_known place reasons.Pid (number_at 1 MAX_NUMBER (text_of letters))

-- `PID=NAME`
abbrev pub numbered_at : ℕ → List Letter → List Letter → Result Called WordFault
numbered_at place number name = do
  pid ← pid_at place number
  label ← label_at place (text_of name)
  Ok (record { thread = Numbered pid; label = label })

-- `NAME`
abbrev pub named_at : ℕ → List Letter → Result Called WordFault
named_at place name = do
  label ← label_at place (text_of name)
  Ok (record { thread = Named label; label = label })

abbrev pub called_at : ℕ → List Letter → Result Called WordFault
called_at place letters =
    if list_any (is_at signs.Equals) letters
    then numbered_at place (before_first (is_at signs.Equals) letters) (after_first (is_at signs.Equals) letters)
    else named_at place letters

-- a number of milliseconds, as nanoseconds
abbrev pub milliseconds_at : ℕ → Reason → List Letter → Result ℕ WordFault
milliseconds_at place reason letters = known place reason (decimal_at 6 MAX_DEADLINE (text_of letters))

-- A deadline is at least a unit of time.
abbrev pub deadline_at : ℕ → ℕ → List Letter → Result ℕ WordFault
deadline_at unit place letters = do
  deadline ← milliseconds_at place reasons.Deadline letters
  if nat_le unit deadline then Ok deadline else refuse_task place reasons.ShortDeadline

-- where a period stands behind it: empty, it is 0
abbrev pub apart_at : ℕ → List Letter → Result ℕ WordFault
apart_at place [] = Ok 0
apart_at place (letter ∷ letters) = milliseconds_at place reasons.Apart (letter ∷ letters)

-- A period is above 0.
abbrev pub period_at : ℕ → List Letter → Result ℕ WordFault
period_at place letters = do
  period ← milliseconds_at place reasons.Period letters
  if nat_lt 0 period then Ok period else refuse_task place reasons.Period

-- `APART:PERIOD`
abbrev pub periodic_at : ℕ → List Letter → List Letter → Result Pace WordFault
periodic_at place first second = do
  apart ← apart_at place first
  period ← period_at place second
  Ok (record { apart = apart; period = period })

-- `APART`
abbrev pub apart_alone_at : ℕ → List Letter → Result Pace WordFault
apart_alone_at place letters = do
  apart ← milliseconds_at place reasons.Apart letters
  Ok (record { apart = apart; period = 0 })

abbrev pub pace_at : ℕ → List Letter → Result Pace WordFault
pace_at place letters =
    if list_any (is_at signs.Colon) letters
    then periodic_at place (before_first (is_at signs.Colon) letters) (after_first (is_at signs.Colon) letters)
    else apart_alone_at place letters

pub record Times : Type 0 where
  pub deadline : ℕ
  pub pace : Pace

-- `DEADLINE:APART` or `DEADLINE:APART:PERIOD`
abbrev pub paced_at : ℕ → ℕ → List Letter → List Letter → Result Times WordFault
paced_at unit place first second = do
  deadline ← deadline_at unit place first
  pace ← pace_at place second
  Ok (record { deadline = deadline; pace = pace })

-- `DEADLINE`
abbrev pub alone_at : ℕ → ℕ → List Letter → Result Times WordFault
alone_at unit place letters = do
  deadline ← deadline_at unit place letters
  Ok (record { deadline = deadline; pace = record { apart = 0; period = 0 } })

abbrev pub times_at : ℕ → ℕ → List Letter → Result Times WordFault
times_at unit place letters =
    if list_any (is_at signs.Colon) letters
    then paced_at unit place (before_first (is_at signs.Colon) letters) (after_first (is_at signs.Colon) letters)
    else alone_at unit place letters

abbrev pub task_of_parts : ℕ → ℕ → List Letter → List Letter → Result Task WordFault
task_of_parts unit place name window = do
  called ← called_at place name
  times ← times_at unit place window
  Ok (record { label = called.label; thread = called.thread; deadline = times.deadline; apart = times.pace.apart; period = times.pace.period })

-- a task in the list, at this place counted from 1
abbrev pub task_at : ℕ → ℕ → List Letter → Result Task WordFault
task_at unit place letters =
    if list_any (is_at signs.Colon) letters
    then task_of_parts unit place (before_first (is_at signs.Colon) letters) (after_first (is_at signs.Colon) letters)
    else refuse_task place reasons.TaskForm

-- # All tasks

-- those of these letters, from this place on, or the first that is refused
abbrev pub tasks_from : ℕ → ℕ → List (List Letter) → Result (List Task) WordFault
tasks_from unit place [] = Ok []
tasks_from unit place (letters ∷ more) = and_behind (task_at unit place letters) (tasks_from unit (place + 1) more)

abbrev pub is_same_pid : Which → Which → Bool
is_same_pid (Numbered pid) (Numbered other) = pid == other
is_same_pid (Numbered pid) (Named name) = false
is_same_pid (Named name) other = false

abbrev pub is_same_label : Task → Task → Bool
is_same_label task other = bytes_eq task.label other.label

abbrev pub is_same_thread : Task → Task → Bool
is_same_thread task other = is_same_pid task.thread other.thread

-- Whether a task stands there again: one of its label, or one of its thread.
abbrev pub again_in : Task → List Task → Option Reason
again_in task others =
    if list_any (is_same_label task) others then Some reasons.LabelTwice
    else (if list_any (is_same_thread task) others then Some reasons.ThreadTwice else None)

-- the tasks, none of which stands there again
abbrev pub different_from : ℕ → List Task → Option WordFault
different_from place [] = None
different_from place (task ∷ tasks) = elim (again_in task tasks) [
  | Some reason ↦ Some (record { word = codes "--tasks"; place = Some (places.Task place); reason = reason })
  | None ↦ different_from (place + 1) tasks
]

abbrev pub unless : {A : Type 0} → Option WordFault → A → Result A WordFault
unless None x = Ok x
unless (Some fault) x = Err fault

-- the tasks of these pieces
abbrev pub tasks_of : ℕ → List (List Letter) → Result (List Task) WordFault
tasks_of unit pieces =
    if nat_lt MAX_TASKS (length pieces) then refuse (codes "--tasks") reasons.TooManyTasks
    else (do
      tasks ← tasks_from unit 1 pieces
      unless (different_from 1 tasks) tasks)

-- what this value of `--tasks` lists
abbrev pub tasks_in : ℕ → List ℕ → Result (List Task) WordFault
tasks_in unit text = tasks_of unit (slice_split (is_at signs.Comma) (letters_of text))

abbrev pub tasks_asked : ℕ → Option (List ℕ) → Result (List Task) WordFault
tasks_asked unit None = refuse (codes "--tasks") reasons.NoTasks
tasks_asked unit (Some text) = tasks_in unit text
