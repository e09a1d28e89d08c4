-- What is a fault of a trace, beside the form of its lines: with it nothing can be said of the tasks that are asked for.
use Rattle.std.specs.Prelude.{ℕ, suc, ◌+◌, List, [], ◌∷◌, length, Bool, true, false, not, ◌==◌, ◌&&◌, ◌||◌, nat_lt, if◌then◌else◌, Option, Some, None, is_some, is_none, unwrap_or, position}
use Rattle.yds_kernel.specs.declared.state.State.{State}
use Rattle.yds_kernel.specs.declared.state.State.TheVariants as states
use Rattle.yds_kernel.specs.declared.loss.Since.TheVariants as since
use Rattle.yds_kernel.specs.Parts.{or_else}
use Rattle.yds_kernel.specs.Event.{Thread, Happening, Switch, WakeUp, Speed, Event, Said, Stamped, Lost, Nothing}
use Rattle.yds_trace.specs.declared.limits.TheConstants.{MAX_PROCESSOR, MAX_TIME, MAX_TOUCHES}
use Rattle.yds_trace.specs.declared.fault.Cause.{Cause}
use Rattle.yds_trace.specs.declared.fault.Cause.TheVariants as causes
use Rattle.yds_trace.specs.Asked.{Task, Start, Fixed, Same, Listed, Asked, task_of, is_number, is_numbered, is_named, is_before_to, is_within_to, is_behind_from}
use Rattle.yds_trace.specs.Past.{last_time, lost_since, is_loss, has_switched, is_first_switch, up_to}
use Rattle.yds_trace.specs.declared.job.End.TheVariants as ends
use Rattle.yds_trace.specs.Jobs.{Job, Known, stands_on, leaving_at, missing_of, all_known, known_after}
use Rattle.yds_trace.specs.Others.{any_waits}

-- # Which thread a task is

abbrev pub pid_if : Asked → ℕ → Thread → Option ℕ
pid_if asked number thread = if is_number number (task_of asked.tasks thread) then Some thread.pid else None

abbrev pub pid_in : Asked → ℕ → Happening → Option ℕ
pid_in asked number (Switch previous state next) = or_else (pid_if asked number next) (pid_if asked number previous)
pid_in asked number (WakeUp thread starts) = pid_if asked number thread
pid_in asked number _ = None

-- the thread that was the task of this number last
abbrev pub pid_before : Asked → ℕ → List Said → Option ℕ
pid_before asked number [] = None
pid_before asked number (Stamped event ∷ past) = or_else (pid_in asked number event.happening) (pid_before asked number past)
pid_before asked number (Lost processor reach ∷ past) = pid_before asked number past
pid_before asked number (Nothing ∷ past) = pid_before asked number past

-- # What a thread is refused for

-- one task by its number, and another by its name
abbrev pub is_two_tasks : List Task → Thread → Bool
is_two_tasks tasks thread =
    is_some (position (λ task. is_numbered thread.pid task.thread) tasks) && is_some (position (λ task. is_named thread.name task.thread) tasks)

abbrev pub is_another : ℕ → Option ℕ → Bool
is_another pid None = false
is_another pid (Some other) = not (other == pid)

-- the task that it is was another thread before, in the lines that count
abbrev pub is_another_thread : Asked → List Said → Thread → Bool
is_another_thread asked counting thread = elim (task_of asked.tasks thread) [
  | None ↦ false
  | Some number ↦ is_another thread.pid (pid_before asked number counting)
]

abbrev pub has_exited : List Job → Bool
has_exited [] = false
has_exited (job ∷ jobs) = job.exited

-- the task's thread was over before, in the lines that count
abbrev pub is_over : Asked → List Said → Thread → Bool
is_over asked counting thread = elim (task_of asked.tasks thread) [
  | None ↦ false
  | Some number ↦ has_exited (known_after asked number counting).jobs
]

-- one of these tasks, from this number on, was the thread of this number before
abbrev pub has_number : Asked → List Said → ℕ → ℕ → List Task → Bool
has_number asked counting pid number [] = false
has_number asked counting pid number (task ∷ tasks) =
    is_number pid (pid_before asked number counting) || has_number asked counting pid (number + 1) tasks

-- the task that it is was this thread before
abbrev pub is_same_thread : Asked → List Said → Thread → Bool
is_same_thread asked counting thread = elim (task_of asked.tasks thread) [
  | None ↦ false
  | Some number ↦ is_number thread.pid (pid_before asked number counting)
]

-- It was a task's thread before, in the lines that count, and has another name now.
abbrev pub is_renamed : Asked → List Said → Thread → Bool
is_renamed asked counting thread = not (is_same_thread asked counting thread) && has_number asked counting thread.pid 0 asked.tasks

abbrev pub thread_fault : Asked → List Said → Thread → Option Cause
thread_fault asked counting thread =
    if is_two_tasks asked.tasks thread then Some causes.TwoTasks
    else (if is_another_thread asked counting thread then Some causes.TwoThreads
    else (if is_over asked counting thread then Some causes.Exited
    else (if is_renamed asked counting thread then Some causes.Renamed else None)))

abbrev pub is_unknown : State → Bool
is_unknown states.GoesOn = false
is_unknown states.Sleeps = false
is_unknown states.Exits = false
is_unknown states.Unknown = true

-- what the thread that leaves is refused for
abbrev pub first_thread_fault : Asked → List Said → Happening → Option Cause
first_thread_fault asked counting (Switch previous state next) = thread_fault asked counting previous
first_thread_fault asked counting _ = None

abbrev pub state_fault : Asked → Thread → State → Option Cause
state_fault asked thread state = if is_some (task_of asked.tasks thread) && is_unknown state then Some causes.UnknownState else None

-- ---- wake-ups that aren't recorded

-- The last job has ended, and it went on behind a sleep before, or no wake-up was ever seen.
abbrev pub slept_before : Bool → List Job → Bool
slept_before ever [] = false
slept_before ever (job ∷ jobs) = elim job.end [
  | ends.Open ↦ false
  | ends.Ended end ↦ not (ever && is_none job.slept)
  | ends.Lost last ↦ false
]

-- Its thread left to sleep, and no wake-up ended that: for the second time in one job, or none of it was ever seen.
abbrev pub is_unwoken : Known → Bool
is_unwoken known = known.woken.seen && is_none known.woken.started && slept_before known.woken.ever known.jobs

-- Jobs begin at wake-ups, and the trace is to be whole.
abbrev pub needs_wake_ups : Asked → Bool
needs_wake_ups asked = not asked.cut_losses && not asked.begin_at_run

-- what a thread that comes is refused for then
abbrev pub unwoken_fault : Asked → List Said → Thread → Option Cause
unwoken_fault asked counting thread = elim (task_of asked.tasks thread) [
  | None ↦ None
  | Some number ↦ if needs_wake_ups asked && is_unwoken (known_after asked number counting) then Some causes.NotWoken else None
]

-- # Losses

-- Events are said to be lost since a time before `to`, just before this line, on lines without a stamp.
abbrev pub lost_just_before : Option ℕ → List Said → Bool
lost_just_before to [] = false
lost_just_before to (Stamped event ∷ past) = false
lost_just_before to (Lost processor reach ∷ past) = is_within_to to (lost_since processor reach past) || lost_just_before to past
lost_just_before to (Nothing ∷ past) = lost_just_before to past

abbrev pub tells_loss : Option ℕ → Event → List Said → Bool
tells_loss to event past = is_loss event.happening && is_within_to to (lost_since event.processor since.ItsLastLine past)

-- A place where events are said to be lost, within what is asked for: an event behind `from` before which they were lost since a time before `to`.
abbrev pub is_behind_loss : Option ℕ → Option ℕ → List Said → Event → Bool
is_behind_loss from to past event = (lost_just_before to past || tells_loss to event past) && is_behind_from from event.time

-- such a place, where the trace is to be whole
abbrev pub is_torn : Asked → List Said → Event → Bool
is_torn asked past event = not asked.cut_losses && is_behind_loss asked.from asked.to past event

-- ---- switches that are missing

-- since when switches of tasks are missing before an event, behind the lines that count, if some are
abbrev pub missing_in : Asked → List Said → Event → Happening → Option ℕ
missing_in asked counting event (Switch previous state next) =
    missing_of asked previous next (leaving_at asked counting event previous) (all_known asked counting) 0 asked.tasks
missing_in asked counting event _ = None

-- the same of a processor's first switch, where it comes behind `to`: who leaves there is taken to have stayed until then
abbrev pub missing_stayed : Asked → ℕ → List Said → Event → Happening → Option ℕ
missing_stayed asked to counting event (Switch previous state next) =
    if has_switched event.processor counting then None
    else missing_of asked previous previous (leaving_at asked counting (record event { time = to }) previous) (all_known asked counting) 0 asked.tasks
missing_stayed asked to counting event _ = None

-- the same of an event as it counts
abbrev pub missing_at : Asked → List Said → Event → Option ℕ
missing_at asked past event =
    if is_before_to asked.to event.time then missing_in asked (up_to asked.to past) event event.happening
    else missing_stayed asked (unwrap_or asked.to event.time) (up_to asked.to past) event event.happening

-- A place where switches of tasks are missing, within what is asked for.
abbrev pub is_behind_missing : Asked → List Said → Event → Bool
is_behind_missing asked past event = is_some (missing_at asked past event) && is_behind_from asked.from event.time

-- # How many lines tell of the tasks

-- a task runs on this processor, among those from this number on
abbrev pub runs_on : Asked → List Said → ℕ → ℕ → List Task → Bool
runs_on asked past processor number [] = false
runs_on asked past processor number (task ∷ tasks) =
    stands_on processor (known_after asked number past).on || runs_on asked past processor (number + 1) tasks

-- Where it is told who was in the way, each switch tells of them while a job waits.
abbrev pub touches : Asked → List Said → Happening → Bool
touches asked past (Switch previous state next) =
    is_some (task_of asked.tasks previous) || is_some (task_of asked.tasks next) || (is_some asked.others && any_waits asked past)
touches asked past (WakeUp thread starts) = is_some (task_of asked.tasks thread)
touches asked past (Speed processor khz) = runs_on asked past processor 0 asked.tasks
touches asked past _ = false

abbrev pub touched : Asked → List Said → ℕ
touched asked [] = 0
touched asked (Stamped event ∷ past) = if touches asked past event.happening then suc (touched asked past) else touched asked past
touched asked (Lost processor reach ∷ past) = touched asked past
touched asked (Nothing ∷ past) = touched asked past

-- # Lines

abbrev pub processor_fault : ℕ → Option Cause
processor_fault processor = if nat_lt MAX_PROCESSOR processor then Some causes.ProcessorTooGreat else None

abbrev pub speed_fault : Happening → Option Cause
speed_fault (Speed processor khz) = processor_fault processor
speed_fault _ = None

-- it tells another speed than the one that each processor is said to have throughout
abbrev pub is_other_speed : Start → ℕ → Bool
is_other_speed (Fixed fixed) khz = not (fixed == khz)
is_other_speed (Same khz) other = false
is_other_speed (Listed speeds) khz = false

abbrev pub processors_fault : Event → Option Cause
processors_fault event = or_else (processor_fault event.processor) (speed_fault event.happening)

-- what an event is refused for, whatever stands before it
abbrev pub place_fault : Event → Option Cause
place_fault event = or_else (processors_fault event) (if nat_lt MAX_TIME event.time then Some causes.TimeTooGreat else None)

-- Of two threads that the lines so far don't tell of, one that comes where another leaves which is the same task is refused.
abbrev pub both_fault : Asked → Thread → Thread → Option Cause
both_fault asked previous next = elim (task_of asked.tasks previous) [
  | None ↦ None
  | Some number ↦ if is_another previous.pid (pid_if asked number next) then Some causes.TwoThreads else None
]

-- what an event is refused for, behind the lines that count
abbrev pub happening_fault : Asked → List Said → Happening → Option Cause
happening_fault asked counting (Switch previous state next) =
    or_else (thread_fault asked counting previous)
    (or_else (state_fault asked previous state)
    (or_else (thread_fault asked counting next) (or_else (both_fault asked previous next) (unwoken_fault asked counting next))))
happening_fault asked counting (WakeUp thread starts) = thread_fault asked counting thread
happening_fault asked counting (Speed processor khz) = if is_other_speed asked.start khz then Some causes.SpeedChanged else None
happening_fault asked counting _ = None

-- what an event not after `to` is refused for
abbrev pub event_fault : Asked → List Said → Event → Option Cause
event_fault asked past event =
    if nat_lt event.time (last_time past) then Some causes.TimeGoesBack
    else happening_fault asked (up_to asked.to past) event.happening

-- Of an event after `to` only the thread is looked at that had its processor until then.
abbrev pub stayed_fault : Asked → List Said → Event → Option Cause
stayed_fault asked past event =
    if is_first_switch event (up_to asked.to past) then first_thread_fault asked (up_to asked.to past) event.happening else None

abbrev pub threads_fault : Asked → List Said → Event → Option Cause
threads_fault asked past event =
    if is_before_to asked.to event.time then event_fault asked past event else stayed_fault asked past event

-- what an event is refused for where the trace is to be whole, and isn't
abbrev pub loss_fault : Asked → List Said → Event → Option Cause
loss_fault asked past event =
    if is_torn asked past event then Some causes.EventsLost
    else (if not asked.cut_losses && is_behind_missing asked past event then Some causes.LineMissing else None)

-- what an event is refused for by the lines before it
abbrev pub behind_fault : Asked → List Said → Event → Option Cause
behind_fault asked past event = or_else (threads_fault asked past event) (loss_fault asked past event)

abbrev pub stamped_fault : Asked → List Said → Event → Option Cause
stamped_fault asked past event = or_else (place_fault event) (behind_fault asked past event)

-- The lines that count tell too much of the tasks.
abbrev pub touched_fault : Asked → List Said → Option Cause
touched_fault asked counting = if nat_lt MAX_TOUCHES (touched asked counting) then Some causes.TooLong else None

-- Told in parts they may tell as much as they like: what waits is bounded.
abbrev pub counted_fault : Asked → List Said → Option Cause
counted_fault asked counting = if asked.in_parts then None else touched_fault asked counting

abbrev pub length_fault : Asked → List Said → Option Cause
length_fault asked lines = counted_fault asked (up_to asked.to lines)

-- what a line with this past is refused for
abbrev pub said_fault : Asked → List Said → Said → Option Cause
said_fault asked past (Stamped event) = or_else (stamped_fault asked past event) (length_fault asked (Stamped event ∷ past))
said_fault asked past (Lost processor reach) = processor_fault processor
said_fault asked past Nothing = None

-- the first line that is refused: its number, counted from 1, and why
abbrev pub numbered : ℕ → Option Cause → Option (ℕ × Cause)
numbered number None = None
numbered number (Some cause) = Some (number, cause)

abbrev pub first_fault : Asked → List Said → Option (ℕ × Cause)
first_fault asked [] = None
first_fault asked (said ∷ past) = or_else (first_fault asked past) (numbered (length past + 1) (said_fault asked past said))

-- # The whole trace

abbrev pub has_stamp : List Said → Bool
has_stamp [] = false
has_stamp (Stamped event ∷ past) = true
has_stamp (Lost processor reach ∷ past) = has_stamp past
has_stamp (Nothing ∷ past) = has_stamp past

-- the first task, from this number on, that no line names
abbrev pub unseen_from : Asked → List Said → ℕ → List Task → Option ℕ
unseen_from asked past number [] = None
unseen_from asked past number (task ∷ tasks) =
    if is_none (pid_before asked number past) then Some number else unseen_from asked past (number + 1) tasks

abbrev pub unseen_fault : Option ℕ → Option Cause
unseen_fault None = None
unseen_fault (Some number) = Some (causes.Unseen number)

-- what a trace whose lines are all taken is refused for
abbrev pub whole_fault : Asked → List Said → Option Cause
whole_fault asked past =
    if not (has_stamp past) then Some causes.NoLine
    else (if not asked.cut_losses && lost_just_before asked.to past then Some causes.EventsLost
    else unseen_fault (unseen_from asked past 0 asked.tasks))

-- The first line that is refused and why, or why the whole trace is, at its last line.
abbrev pub trace_fault : Asked → List Said → Option (ℕ × Cause)
trace_fault asked past = or_else (first_fault asked past) (numbered (length past) (whole_fault asked past))
