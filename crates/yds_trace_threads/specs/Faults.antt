-- For which line a trace's threads aren't told.
use Rattle.std.specs.Prelude.{ℕ, ◌+◌, List, [], ◌∷◌, length, nat_lt, if◌then◌else◌, Option, Some, None}
use Rattle.base.specs.Fields.{Fault}
use Rattle.yds_kernel.specs.declared.fault.Reason.{Reason}
use Rattle.yds_kernel.specs.Parts.{or_else}
use Rattle.yds_kernel.specs.Event.{Event, Said, Stamped, Lost, Nothing}
use Rattle.yds_kernel.specs.Text.{Trace}
use Rattle.yds_kernel_order.specs.Order.{order_of}
use Rattle.yds_trace.specs.declared.fault.Cause.{Cause}
use Rattle.yds_trace.specs.declared.fault.Cause.TheVariants as causes
use Rattle.yds_trace.specs.Past.{last_time}
use Rattle.yds_trace.specs.Faults.{place_fault, processor_fault, numbered, has_stamp}
use Rattle.yds_trace_reading.specs.LineFault.{LineFault, past_of, at_line, in_form, in_text}

-- Each event stands where it may, and at the time of the one before it or later.
abbrev pub event_fault : List Said → Event → Option Cause
event_fault past event = or_else (place_fault event) (if nat_lt event.time (last_time past) then Some causes.TimeGoesBack else None)

-- what a line with this past is refused for
abbrev pub said_fault : List Said → Said → Option Cause
said_fault past (Stamped event) = event_fault past event
said_fault past (Lost processor reach) = processor_fault processor
said_fault past Nothing = None

-- the first line that is refused: its number, counted from 1, and why
abbrev pub first_fault : List Said → Option (ℕ × Cause)
first_fault [] = None
first_fault (said ∷ past) = or_else (first_fault past) (numbered (length past + 1) (said_fault past said))

-- A trace without any line that has a stamp tells nothing.
abbrev pub whole_fault : List Said → Option Cause
whole_fault past = if has_stamp past then None else Some causes.NoLine

-- The first line that is refused, whether by those before it or by its form; or the last one, where the trace as a whole tells nothing.
abbrev pub line_fault_after : List Said → Option (Fault Reason) → Option LineFault
line_fault_after past form =
    or_else (at_line (first_fault past)) (or_else (in_form form) (at_line (numbered (length past) (whole_fault past))))

abbrev pub line_fault : Trace → Option LineFault
line_fault trace = line_fault_after (past_of trace) trace.fault

-- of bytes, whose lines are taken in order of time: with its number in the text
abbrev pub line_fault_of : List ℕ → Option LineFault
line_fault_of input = in_text input (line_fault (order_of input))
