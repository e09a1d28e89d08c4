-- From when to when a trace is asked for: by its clock, or from its first event on. All times are nanoseconds.
use Rattle.std.specs.Prelude.{ℕ, ◌+◌, List, [], ◌∷◌, Bool, true, false, ◌||◌, nat_le, if◌then◌else◌, Option, Some, None, option_map}
use Rattle.yds_kernel.specs.Event.{Said, Stamped, Lost, Nothing}
use Rattle.yds_kernel.specs.Text.{Trace}
use Rattle.yds_trace.specs.declared.limits.TheConstants.{MAX_TIME}
use Rattle.yds_trace.specs.Asked.{Asked}
use Rattle.yds_trace_bounds.specs.declared.bounds.Moment.{Moment}
use Rattle.yds_trace_bounds.specs.declared.bounds.Moment.TheVariants.{Clock, AfterFirst}
use Rattle.yds_trace_bounds.specs.declared.bounds.Bounds.{Bounds}

-- # Times

-- no time is behind the clock's last one
abbrev pub within_clock : ℕ → ℕ
within_clock time = if nat_le time MAX_TIME then time else MAX_TIME

-- when it is, by the clock of a trace whose first event has this time
abbrev pub time_at : ℕ → Moment → ℕ
time_at first (Clock time) = time
time_at first (AfterFirst time) = within_clock (first + time)

-- what is asked within these bounds of such a trace
abbrev pub asked_from : ℕ → Bounds → Asked → Asked
asked_from first bounds asked = record asked { from = option_map (time_at first) bounds.from; to = option_map (time_at first) bounds.to }

-- # The first event

abbrev pub counts_from_first : Option Moment → Bool
counts_from_first (Some (AfterFirst time)) = true
counts_from_first (Some (Clock time)) = false
counts_from_first None = false

abbrev pub count_from_first : Bounds → Bool
count_from_first bounds = counts_from_first bounds.from || counts_from_first bounds.to

-- When what a line says was. It isn't known of events that were lost.
abbrev pub time_of : Said → Option ℕ
time_of (Stamped event) = Some event.time
time_of (Lost processor since) = None
time_of Nothing = None

-- The time of the first of these lines. Where it tells of lost events, one of those may have been the first. Where there is no line, nothing is
-- asked of any.
abbrev pub first_time : List Said → Option ℕ
first_time [] = Some 0
first_time (first ∷ behind) = time_of first

-- the time from which the bounds count, if it is known
abbrev pub first_of : Bounds → Trace → Option ℕ
first_of bounds trace = if count_from_first bounds then first_time trace.said else Some 0

-- What is asked within these bounds of a trace whose lines are in order of time. None, where they count from a first event that was lost.
abbrev pub asked_in : Bounds → Asked → Trace → Option Asked
asked_in bounds asked trace = option_map (λ first. asked_from first bounds asked) (first_of bounds trace)
