-- For which line a trace isn't told: the first one in their order, whether by its form or by the lines before it; or the last one, where the
-- trace as a whole tells nothing.
use Rattle.std.specs.Prelude.{ℕ, List, length, reverse, Option, Some, None}
use Rattle.base.specs.Fields.{Fault}
use Rattle.yds_kernel.specs.declared.fault.Reason.{Reason}
use Rattle.yds_kernel.specs.Parts.{or_else}
use Rattle.yds_kernel.specs.Event.{Said}
use Rattle.yds_kernel.specs.Text.{Trace}
use Rattle.yds_kernel_order.specs.Order.{order_of, line_at}
use Rattle.yds_trace.specs.declared.fault.Cause.{Cause}
use Rattle.yds_trace.specs.Asked.{Asked}
use Rattle.yds_trace.specs.Faults.{first_fault, numbered, whole_fault}

pub data LineFault : Type 0 where
  -- its form is refused
  InForm : (fault : Fault Reason) → LineFault
  -- the line of this number can't stand behind those before it, or is the last one of a trace that tells nothing
  AtLine : (number : ℕ) (cause : Cause) → LineFault

-- what the lines said, the last one first, up to the first whose form is refused
abbrev pub past_of : Trace → List Said
past_of trace = reverse trace.said

abbrev pub at_line : Option (ℕ × Cause) → Option LineFault
at_line None = None
at_line (Some found) = Some (AtLine found.0 found.1)

abbrev pub in_form : Option (Fault Reason) → Option LineFault
in_form None = None
in_form (Some fault) = Some (InForm fault)

-- A line whose form is refused stands behind each that says something, so a fault of one of those comes first.
abbrev pub line_fault_after : Asked → List Said → Option (Fault Reason) → Option LineFault
line_fault_after asked past form =
    or_else (at_line (first_fault asked past)) (or_else (in_form form) (at_line (numbered (length past) (whole_fault asked past))))

abbrev pub line_fault : Asked → Trace → Option LineFault
line_fault asked trace = line_fault_after asked (past_of trace) trace.fault

-- # Bytes, whose lines are taken in order of time

-- A line's place in that order is told as its number in the text.
abbrev pub in_text : List ℕ → Option LineFault → Option LineFault
in_text input None = None
in_text input (Some (InForm fault)) = Some (InForm fault)
in_text input (Some (AtLine place cause)) = Some (AtLine (line_at input place) cause)

abbrev pub line_fault_of : Asked → List ℕ → Option LineFault
line_fault_of asked input = in_text input (line_fault asked (order_of input))
