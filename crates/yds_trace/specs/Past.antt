-- What the lines of a trace said before: the last one stands first. A line's past is what the lines before it said.
use Rattle.std.specs.Prelude.{ℕ, ◌+◌, max, List, [], ◌∷◌, Bool, true, false, not, ◌==◌, ◌&&◌, if◌then◌else◌, Option, Some, None, is_some, unwrap_or, nat_lt, nat_le}
use Rattle.yds_kernel.specs.declared.state.State.TheVariants as states
use Rattle.yds_kernel.specs.declared.loss.Since.{Since}
use Rattle.yds_kernel.specs.declared.loss.Since.TheVariants as since
use Rattle.yds_trace.specs.Asked.{Start, start_of, lost_speed}
use Rattle.yds_kernel.specs.Event.{Thread, Happening, Switch, Speed, Loss, Said, Stamped, Lost, Nothing, Event}

-- # Times

-- the time of the trace's first line with a stamp, or `here` where there is none
abbrev pub first_time : ℕ → List Said → ℕ
first_time here [] = here
first_time here (Stamped event ∷ past) = first_time event.time past
first_time here (Lost processor reach ∷ past) = first_time here past
first_time here (Nothing ∷ past) = first_time here past

-- the time of its last line with a stamp, or 0 where there is none
abbrev pub last_time : List Said → ℕ
last_time [] = 0
last_time (Stamped event ∷ past) = event.time
last_time (Lost processor reach ∷ past) = last_time past
last_time (Nothing ∷ past) = last_time past

-- the time of a processor's last line
abbrev pub last_time_on : ℕ → List Said → Option ℕ
last_time_on processor [] = None
last_time_on processor (Stamped event ∷ past) = if event.processor == processor then Some event.time else last_time_on processor past
last_time_on processor (Lost other reach ∷ past) = last_time_on processor past
last_time_on processor (Nothing ∷ past) = last_time_on processor past

-- # Processors

-- the number behind that of the processor of which a line tells
abbrev pub next_processor : Said → ℕ
next_processor (Stamped event) = event.processor + 1
next_processor (Lost processor reach) = processor + 1
next_processor Nothing = 0

-- Processor 0 has documents in any case, and each one up to the greatest of which a line tells.
abbrev pub processor_count : List Said → ℕ
processor_count [] = 1
processor_count (said ∷ past) = max (next_processor said) (processor_count past)

-- # Losses

-- Since when a processor's events were lost, that says so after this past: since its last line, or since the trace's begin.
abbrev pub lost_since : ℕ → Since → List Said → ℕ
lost_since processor since.ItsLastLine past = unwrap_or (last_time_on processor past) (first_time 0 past)
lost_since processor since.TheBegin past = first_time 0 past

abbrev pub is_loss : Happening → Bool
is_loss Loss = true
is_loss _ = false

-- The time of a processor's first line since events were last lost, or since the trace's begin; `here` where there is none.
abbrev pub lines_since : ℕ → ℕ → List Said → ℕ
lines_since processor here [] = here
lines_since processor here (Stamped event ∷ past) =
    if is_loss event.happening then here else lines_since processor (if event.processor == processor then event.time else here) past
lines_since processor here (Lost other reach ∷ past) = here
lines_since processor here (Nothing ∷ past) = lines_since processor here past

abbrev pub is_switch : Happening → Bool
is_switch (Switch previous state next) = true
is_switch _ = false

-- when a processor switched last, since events were lost
abbrev pub last_switch : ℕ → List Said → Option ℕ
last_switch processor [] = None
last_switch processor (Stamped event ∷ past) =
    if is_loss event.happening then None
    else (if is_switch event.happening && (event.processor == processor) then Some event.time else last_switch processor past)
last_switch processor (Lost other reach ∷ past) = None
last_switch processor (Nothing ∷ past) = last_switch processor past

abbrev pub has_switched : ℕ → List Said → Bool
has_switched processor past = is_some (last_switch processor past)

-- Who has a processor: who came to it by its last switch since events were lost.
abbrev pub has_it : ℕ → Event → Happening → Option Thread → Option Thread
has_it processor event (Switch previous state next) before = if event.processor == processor then Some next else before
has_it processor event Loss before = None
has_it processor event _ before = before

abbrev pub who_has : ℕ → List Said → Option Thread
who_has processor [] = None
who_has processor (Stamped event ∷ past) = has_it processor event event.happening (who_has processor past)
who_has processor (Lost other reach ∷ past) = None
who_has processor (Nothing ∷ past) = who_has processor past

-- # What is asked for

-- Of the lines after `to` those count that tell of a loss which reaches back before it, and each processor's first switch.
abbrev pub counts : ℕ → Event → List Said → Bool
counts to event past = if is_loss event.happening then nat_lt (lost_since event.processor since.ItsLastLine past) to else nat_le event.time to

-- The first switch of a processor, where it comes after `to`: who leaves it there had it until `to`, and has it then.
abbrev pub stayed : ℕ → ℕ → Happening → Said
stayed to processor (Switch previous state next) =
    Stamped (record { processor = processor; time = to; happening = Switch previous states.GoesOn previous })
stayed to processor _ = Nothing

abbrev pub is_first_switch : Event → List Said → Bool
is_first_switch event past = is_switch event.happening && not (has_switched event.processor past)

-- A line behind those that count.
abbrev pub counted : ℕ → Event → List Said → List Said → List Said
counted to event past counting =
    if counts to event past then Stamped event ∷ counting
    else (if is_first_switch event counting then stayed to event.processor event.happening ∷ counting else counting)

abbrev pub up_to_time : ℕ → List Said → List Said
up_to_time to [] = []
up_to_time to (Stamped event ∷ past) = counted to event past (up_to_time to past)
up_to_time to (Lost processor reach ∷ past) =
    if nat_lt (lost_since processor reach past) to then Lost processor reach ∷ up_to_time to past else up_to_time to past
up_to_time to (Nothing ∷ past) = up_to_time to past

-- the lines that count
abbrev pub up_to : Option ℕ → List Said → List Said
up_to None past = past
up_to (Some to) past = up_to_time to past

-- # Speeds

-- A processor's speed after these lines, in kilohertz: that of its last change. Before its first change it is that of `start`; after lost
-- events it isn't known, as a change may be among them, unless it is the same throughout.
abbrev pub speed_told : Start → ℕ → Happening → Option ℕ → Option ℕ
speed_told start processor (Speed other khz) before = if other == processor then Some khz else before
speed_told start processor Loss before = lost_speed start
speed_told start processor _ before = before

abbrev pub speed_after : Start → ℕ → List Said → Option ℕ
speed_after start processor [] = start_of start processor
speed_after start processor (Stamped event ∷ past) = speed_told start processor event.happening (speed_after start processor past)
speed_after start processor (Lost other reach ∷ past) = lost_speed start
speed_after start processor (Nothing ∷ past) = speed_after start processor past
