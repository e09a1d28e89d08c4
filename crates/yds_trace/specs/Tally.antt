-- What a trace lacks, or says that a reader should know, beside the jobs: five counts of its lines, within what is asked for.
use Rattle.std.specs.Prelude.{ℕ, zero, suc, ◌-◌, List, [], ◌∷◌, Bool, true, false, not, ◌==◌, ◌&&◌, ◌||◌, nat_lt, if◌then◌else◌, Option, Some, None, is_none}
use Rattle.yds_kernel.specs.Event.{Thread, Happening, Switch, Marker, Event, Said, Stamped, Lost, Nothing}
use Rattle.yds_kernel.specs.Parts.{capped}
use Rattle.yds_trace.specs.declared.tally.Pause.{Pause}
use Rattle.yds_trace.specs.declared.tally.Silence.{Silence}
use Rattle.yds_trace.specs.declared.tally.Tally.{Tally}
use Rattle.yds_trace.specs.Asked.{Task, Asked, task_of, is_before_to, is_after_from}
use Rattle.yds_trace.specs.Past.{processor_count, last_time, last_time_on, who_has}
use Rattle.yds_trace.specs.Late.{last_asked}
use Rattle.yds_trace.specs.Faults.{lost_just_before, is_behind_loss, is_behind_missing, has_stamp}

-- at a time from `from` to `to`
abbrev pub is_asked_for : Option ℕ → Option ℕ → ℕ → Bool
is_asked_for from to time = is_after_from from time && is_before_to to time

-- so many, and one more where the test holds
abbrev pub one_more : Bool → ℕ → ℕ
one_more test number = if test then suc number else number

-- # Places where events were lost

-- Such a place is one where they are said to be, or where switches of tasks are missing.
abbrev pub is_gap : Asked → List Said → Event → Bool
is_gap asked past event = is_behind_loss asked.from asked.to past event || is_behind_missing asked past event

abbrev pub losses_before : Asked → List Said → ℕ
losses_before asked [] = 0
losses_before asked (Stamped event ∷ past) = one_more (is_gap asked past event) (losses_before asked past)
losses_before asked (Lost processor reach ∷ past) = losses_before asked past
losses_before asked (Nothing ∷ past) = losses_before asked past

-- The end of the trace is one too, where events are said to be lost just before.
abbrev pub losses : Asked → List Said → ℕ
losses asked past = one_more (lost_just_before asked.to past) (losses_before asked past)

-- # Switches that are missing

-- Who leaves a processor isn't who came to it by its last switch since events were lost, and neither is a task that is asked for.
abbrev pub came_unseen : List Task → Option Thread → Thread → Bool
came_unseen tasks None previous = false
came_unseen tasks (Some came) previous = not (came.pid == previous.pid) && is_none (task_of tasks came) && is_none (task_of tasks previous)

-- before this one another switch of the processor is missing
abbrev pub lacks_switch : List Task → List Said → ℕ → Happening → Bool
lacks_switch tasks past processor (Switch previous state next) = came_unseen tasks (who_has processor past) previous
lacks_switch tasks past processor _ = false

abbrev pub missing_switches : Option ℕ → Option ℕ → List Task → List Said → ℕ
missing_switches from to tasks [] = 0
missing_switches from to tasks (Stamped event ∷ past) =
    one_more (lacks_switch tasks past event.processor event.happening && is_asked_for from to event.time) (missing_switches from to tasks past)
missing_switches from to tasks (Lost processor reach ∷ past) = missing_switches from to tasks past
missing_switches from to tasks (Nothing ∷ past) = missing_switches from to tasks past

-- # Lines that programs wrote

abbrev pub is_marker : Happening → Bool
is_marker Marker = true
is_marker _ = false

abbrev pub markers : Option ℕ → Option ℕ → List Said → ℕ
markers from to [] = 0
markers from to (Stamped event ∷ past) = one_more (is_marker event.happening && is_asked_for from to event.time) (markers from to past)
markers from to (Lost processor reach ∷ past) = markers from to past
markers from to (Nothing ∷ past) = markers from to past

-- # The longest time without a line

-- A line with a stamp is before one of this time, and both are asked for.
abbrev pub has_pause : Option ℕ → Option ℕ → List Said → ℕ → Bool
has_pause from to past time = has_stamp past && is_after_from from (last_time past) && is_before_to to time

-- the longer one of two, if the second is one, or else the one before
abbrev pub longer : Pause → Bool → ℕ → ℕ → Pause
longer before is since lasted = if nat_lt before.lasted lasted && is then record { since = since; lasted = lasted } else before

abbrev pub no_pause : Pause
no_pause = record { since = 0; lasted = 0 }

-- The longest time between a line with a stamp and the one before it, and when it began: the first of equal ones.
abbrev pub longest_pause : Option ℕ → Option ℕ → List Said → Pause
longest_pause from to [] = no_pause
longest_pause from to (Stamped event ∷ past) =
    longer (longest_pause from to past) (has_pause from to past event.time) (last_time past) (event.time - last_time past)
longest_pause from to (Lost processor reach ∷ past) = longest_pause from to past
longest_pause from to (Nothing ∷ past) = longest_pause from to past

-- # Silence at the end

-- The idle thread has it, and is no task.
abbrev pub is_idle : List Task → Option Thread → Bool
is_idle tasks None = false
is_idle tasks (Some thread) = (thread.pid == 0) && is_none (task_of tasks thread)

abbrev pub no_silence : Silence
no_silence = record { processor = 0; since = 0; lasted = 0 }

-- The time from a processor's last line to the end of what is asked for, and when it began. It is none of a processor that was left idle.
abbrev pub silence_on : Asked → List Said → ℕ → Silence
silence_on asked past processor = elim (last_time_on processor past) [
  | None ↦ no_silence
  | Some last ↦ if is_idle asked.tasks (who_has processor past) then no_silence
      else record { processor = processor; since = last; lasted = last_asked asked past - last }
]

-- the longer one, or the first of equal ones
abbrev pub longer_silence : Silence → Silence → Silence
longer_silence one other = if nat_lt one.lasted other.lasted then other else one

-- the longest of so many processors
abbrev pub silence_below : Asked → List Said → ℕ → Silence
silence_below asked past zero = no_silence
silence_below asked past (suc processor) = longer_silence (silence_below asked past processor) (silence_on asked past processor)

abbrev pub silence : Asked → List Said → Silence
silence asked past = silence_below asked past (processor_count past)

-- # All five

-- Beyond 64 bits none is counted.
abbrev pub tally_of : Asked → List Said → Tally
tally_of asked past = record {
  losses = capped (losses asked past);
  missing = capped (missing_switches asked.from asked.to asked.tasks past);
  markers = capped (markers asked.from asked.to past);
  pause = longest_pause asked.from asked.to past;
  silence = silence asked past;
}
