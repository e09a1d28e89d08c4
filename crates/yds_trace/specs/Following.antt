-- What a task's kept state becomes by an event.
use Rattle.std.specs.Prelude.{◌≡◌, ℕ, ◌+◌, ◌<◌, ◌≤◌, ◌==◌, ◌&&◌, ◌||◌, if◌then◌else◌, Bool, true, false, List, [], ◌∷◌, map, length, reverse, take, drop, sum_by, Option, Some, None, is_some, option_map}
use Rattle.std.specs.List.{slice_index_or, list_any, All}
use Rattle.yds_kernel.specs.Event.{Said}
use Rattle.yds_kernel.specs.Parts.{or_else}
use Rattle.yds_trace.specs.declared.asked.Task.{Task as TaskKept}
use Rattle.yds_trace.specs.declared.followed.Followed.{Followed}
use Rattle.yds_trace.specs.declared.job.Job.{Job as JobKept}
use Rattle.yds_trace.specs.declared.job.Standing.{Standing}
use Rattle.yds_trace.specs.declared.others.Others.{Others as OthersKept}
use Rattle.yds_trace.specs.declared.shown.ShownTask.{ShownTask}
use Rattle.yds_trace.specs.declared.step.Place.{Place}
use Rattle.yds_trace.specs.declared.step.Place.TheVariants as places
use Rattle.yds_trace.specs.declared.step.Step.{Step}
use Rattle.yds_trace.specs.declared.step.Step.TheVariants as steps
use Rattle.yds_trace.specs.declared.step.Whose.{Whose}
use Rattle.yds_trace.specs.declared.job.Pace.{Pace}
use Rattle.yds_trace.specs.declared.job.Leaving.{Leaving}
use Rattle.yds_trace.specs.Asked.{Start, Asked, no_task, pace_of, is_number}
use Rattle.yds_trace.specs.Jobs.{unknown, loses, stands_on, earlier, missing_since}
use Rattle.yds_trace.specs.Document.{share_of, began_before}
use Rattle.yds_trace.specs.Others.{Span, Spans, is_waiting, ended_at}
use Rattle.yds_trace.specs.Passing.{closed_at}
use Rattle.yds_trace.specs.Steps.{stepped}
use Rattle.yds_trace.specs.Views.{job_read, jobs_listed, known_read, task_read, going_read, span_read}

-- which wake-ups begin a job of this task, and when that is due
abbrev pub pace_at : List TaskKept → ℕ → Pace
pace_at tasks number = pace_of (slice_index_or (map task_read tasks) number no_task)

-- Since when switches of these tasks are missing, from this number on, before one by which these threads leave and come.
abbrev pub missing_among : Bool → Whose → Whose → Leaving → ℕ → List Followed → Option ℕ
missing_among wakes first second leaving number [] = None
missing_among wakes first second leaving number (followed ∷ tasks) = earlier
    (missing_since wakes (is_number number first.number) (is_number number second.number) leaving (known_read followed.known))
    (missing_among wakes first second leaving (number + 1) tasks)

-- before the first line
pub record IsUnknown (followed : Followed) : Type 0 where
  pub known : known_read followed.known ≡ unknown
  pub pid : followed.pid ≡ None
  pub forgotten : followed.forgotten ≡ 0
  pub before : followed.before ≡ false

-- It took an event, in which its thread leaves or is woken by the first number, and comes by the second.
pub record IsTaken (pace : Pace) (wakes : Bool) (first second : Option ℕ) (step : Step) (was now : Followed) : Type 0 where
  pub known : known_read now.known ≡ stepped pace wakes (is_some first) (is_some second) step (known_read was.known)
  pub pid : now.pid ≡ or_else second (or_else first was.pid)
  pub forgotten : now.forgotten ≡ was.forgotten
  pub before : now.before ≡ was.before

-- Of a thread on which processor it tells something, though that neither leaves, nor comes, nor is woken.
abbrev pub place_of : Step → Place
place_of (steps.Switch state leaving None) = places.Nowhere
place_of (steps.Switch state leaving (Some since)) = places.Everywhere
place_of (steps.WakeUp time starts) = places.Nowhere
place_of (steps.Speed processor time khz) = places.On processor
place_of (steps.Loss since) = places.Everywhere
place_of steps.Nothing = places.Nowhere

abbrev pub is_at : Place → Option Standing → Bool
is_at (places.On processor) on = stands_on processor on
is_at places.Everywhere on = true
is_at places.Nowhere on = false

-- Events were lost after a time.
pub record IsLost (time : ℕ) (was now : Followed) : Type 0 where
  pub known : known_read now.known ≡ loses time (known_read was.known)
  pub pid : now.pid ≡ was.pid
  pub forgotten : now.forgotten ≡ was.forgotten
  pub before : now.before ≡ was.before

-- # What is forgotten

-- Whether the first job of all began before the trace.
abbrev pub first_before : Followed → Bool
first_before followed = if followed.forgotten == 0 then began_before (map job_read followed.known.jobs.items) else followed.before

-- So many of its first jobs were forgotten, which begin before the boundary. The last one was kept.
pub record Forgets (boundary : ℕ) (was now : Followed) : Type 0 where
  pub count : ℕ
  pub earlier : All (λ job. job.begin < boundary) (take count was.known.jobs.items)
  pub last : 1 ≤ count → count < length was.known.jobs.items
  pub jobs : now.known.jobs.items ≡ drop count was.known.jobs.items
  pub on : now.known.on ≡ was.known.on
  pub woken : now.known.woken ≡ was.known.woken
  pub pid : now.pid ≡ was.pid
  pub forgotten : now.forgotten ≡ was.forgotten + count
  pub before : now.before ≡ (if count == 0 then was.before else first_before was)

-- # What is shown

-- It is what is kept of the task, closed at the end of what is shown.
pub record Shows (until : ℕ) (start : Start) (counting : List Said) (followed : Followed) (shown : ShownTask) : Type 0 where
  pub jobs : jobs_listed shown.jobs.items ≡ closed_at until start counting (known_read followed.known)
  pub forgotten : shown.forgotten ≡ followed.forgotten
  pub before : shown.before ≡ first_before followed

-- The same task, with its jobs as the documents of the processor that is asked for have them.
pub record Shares (asked : Asked) (was now : ShownTask) : Type 0 where
  pub jobs : map job_read now.jobs.items ≡ map (share_of asked) (map job_read was.jobs.items)
  pub forgotten : now.forgotten ≡ was.forgotten
  pub before : now.before ≡ was.before

-- # How much is kept

abbrev pub jobs_in : Followed → ℕ
jobs_in followed = length followed.known.jobs.items

abbrev pub stretches_in : JobKept → ℕ
stretches_in job = length job.stretches.items

-- A thread that stands on a processor has a stretch more when it is closed.
abbrev pub stretches_of : Followed → ℕ
stretches_of followed = sum_by stretches_in followed.known.jobs.items + (if is_some followed.known.on then 1 else 0)

-- # Events that tell of tasks

-- A job of one of these tasks waits.
abbrev pub some_waits : List Followed → Bool
some_waits tasks = list_any (λ followed. is_waiting (known_read followed.known)) tasks

-- An event tells of one of these tasks; where it is told who was in the way, each switch does while a job waits.
abbrev pub touches_by : Bool → Whose → Whose → Step → List Followed → Bool
touches_by others first second (steps.Switch state leaving missing) tasks = is_some first.number || is_some second.number || (others && some_waits tasks)
touches_by others first second (steps.WakeUp time starts) tasks = is_some first.number
touches_by others first second (steps.Speed processor time khz) tasks = list_any (λ followed. stands_on processor followed.known.on) tasks
touches_by others first second (steps.Loss since) tasks = false
touches_by others first second steps.Nothing tasks = false

-- # Who was in the way

-- the spans that are kept, the last one first, and what goes on
abbrev pub spans_kept : OthersKept → Spans
spans_kept kept = record { ended = reverse (map span_read kept.spans.items); going = option_map going_read kept.going }

-- Where they are asked for, in order of time. What goes on has gone on until this time.
abbrev pub spans_at : Option ℕ → ℕ → OthersKept → List Span
spans_at None until kept = []
spans_at (Some processor) until kept = reverse (ended_at until (spans_kept kept))
