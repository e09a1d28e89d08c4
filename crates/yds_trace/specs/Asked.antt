-- What is asked of a trace: whose jobs, on which processor, in which units, from when to when. All times are nanoseconds.
use Rattle.std.specs.Prelude.{ℕ, ◌≤◌, List, [], ◌∷◌, Bool, true, false, ◌==◌, if◌then◌else◌, nat_le, nat_lt, Option, Some, None, position}
use Rattle.std.specs.List.{slice_index_or, All}
use Rattle.std.specs.Str.{bytes_eq}
use Rattle.yds_trace.specs.declared.limits.TheConstants.{MAX_DEADLINE}
use Rattle.yds_trace.specs.declared.job.Pace.{Pace}
use Rattle.yds_kernel.specs.Parts.{or_else}
use Rattle.yds_kernel.specs.Event.{Thread}

-- a thread, by its name or by its number
pub data Which : Type 0 where
  Named : (name : List ℕ) → Which
  Numbered : (pid : ℕ) → Which

-- a task: a thread, and the time within which each of its jobs is to end
pub record Task : Type 0 where
  -- how its jobs are called
  pub label : List ℕ
  pub thread : Which
  -- from a job's begin
  pub deadline : ℕ
  -- A wake-up that comes less than so long after a job's begin goes on with that job; with 0 none does.
  pub apart : ℕ
  -- A job is due no later than so long behind the one before it; with 0 it is due by its own begin alone.
  pub period : ℕ

abbrev pub no_task : Task
no_task = record { label = []; thread = Numbered 0; deadline = 0; apart = 0; period = 0 }

-- a processor's speed before its first change, in kilohertz
pub record StartSpeed : Type 0 where
  pub processor : ℕ
  pub khz : ℕ

-- the speeds before the first change
pub data Start : Type 0 where
  -- each processor has this one throughout: no line tells another, and what was lost has no change
  Fixed : (khz : ℕ) → Start
  -- each processor has this one
  Same : (khz : ℕ) → Start
  -- these have theirs, and of no other it is known
  Listed : (speeds : List StartSpeed) → Start

abbrev pub start_in : List StartSpeed → ℕ → Option ℕ
start_in [] processor = None
start_in (speed ∷ speeds) processor = if speed.processor == processor then Some speed.khz else start_in speeds processor

-- The speed of a processor before its first change, where it is known.
abbrev pub start_of : Start → ℕ → Option ℕ
start_of (Fixed khz) processor = Some khz
start_of (Same khz) processor = Some khz
start_of (Listed speeds) processor = start_in speeds processor

-- The speed of each processor where events were lost, as a change may be among them.
abbrev pub lost_speed : Start → Option ℕ
lost_speed (Fixed khz) = Some khz
lost_speed (Same khz) = None
lost_speed (Listed speeds) = None

pub record Asked : Type 0 where
  pub tasks : List Task
  pub processor : ℕ
  -- so many nanoseconds are a unit of time
  pub unit : ℕ
  -- so many kilohertz are a unit of speed
  pub khz : ℕ
  -- the speeds before the first change
  pub start : Start
  pub from : Option ℕ
  pub to : Option ℕ
  -- jobs begin at their first run, and wake-ups aren't read
  pub begin_at_run : Bool
  -- where events were lost it goes on, and leaves out the jobs that may have been open there
  pub cut_losses : Bool
  -- it is told in parts, documents one after another
  pub in_parts : Bool
  -- each processor has documents of its own
  pub everywhere : Bool
  -- of a job that ran on several processors, the documents of each have what it ran there
  pub moved_parts : Bool
  -- of this processor it is told who else had it while a job waited
  pub others : Option ℕ

-- the same, asked of this processor
abbrev pub on : ℕ → Asked → Asked
on processor asked = record asked { processor = processor }

abbrev pub task_at : Asked → ℕ → Task
task_at asked number = slice_index_or asked.tasks number no_task

abbrev pub is_numbered : ℕ → Which → Bool
is_numbered pid (Named name) = false
is_numbered pid (Numbered number) = number == pid

abbrev pub is_named : List ℕ → Which → Bool
is_named name (Named wanted) = bytes_eq wanted name
is_named name (Numbered number) = false

-- Which wake-ups begin a job of a task, and when that is due: what its APART and its period say.
abbrev pub pace_of : Task → Pace
pace_of task = record { apart = task.apart; period = task.period }

-- The number of the task that a thread is: the one with its number, or else the one with its name.
abbrev pub task_of : List Task → Thread → Option ℕ
task_of tasks thread =
    or_else (position (λ task. is_numbered thread.pid task.thread) tasks) (position (λ task. is_named thread.name task.thread) tasks)

abbrev pub is_number : ℕ → Option ℕ → Bool
is_number number None = false
is_number number (Some other) = other == number

-- whether the thread is the task of this number
abbrev pub is_of : Asked → ℕ → Thread → Bool
is_of asked number thread = is_number number (task_of asked.tasks thread)

-- not after `to`
abbrev pub is_before_to : Option ℕ → ℕ → Bool
is_before_to None time = true
is_before_to (Some to) time = nat_le time to

-- not before `from`
abbrev pub is_after_from : Option ℕ → ℕ → Bool
is_after_from None time = true
is_after_from (Some from) time = nat_le from time

-- before `to`
abbrev pub is_within_to : Option ℕ → ℕ → Bool
is_within_to None time = true
is_within_to (Some to) time = nat_lt time to

-- after `from`
abbrev pub is_behind_from : Option ℕ → ℕ → Bool
is_behind_from None time = true
is_behind_from (Some from) time = nat_lt from time

-- What the words are refused without: units are at least 1, and each deadline is at least a unit of time, so that each window has one.
pub record IsAsked (asked : Asked) : Type 0 where
  pub has_unit : 1 ≤ asked.unit
  pub has_speed_unit : 1 ≤ asked.khz
  pub deadlines : All (λ task. asked.unit ≤ task.deadline) asked.tasks

-- and each deadline is within the limit
pub record IsWithin (asked : Asked) : Type 0 where
  pub deadlines : All (λ task. task.deadline ≤ MAX_DEADLINE) asked.tasks
