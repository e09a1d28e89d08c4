-- What the lines of a trace say, up to its first fault.
use Rattle.std.specs.Prelude.{ℕ, List, [], ◌∷◌, map, Bool, ◌==◌, if◌then◌else◌, Option, Some, None, Result, Ok, Err}
use Rattle.base.specs.Lines.{Line, lines_from, trimmed}
use Rattle.base.specs.Fields.{Spot, Fault}
use Rattle.yds_kernel.specs.declared.fault.Reason.{Reason}
use Rattle.yds_kernel.specs.Event.{Said}
use Rattle.yds_kernel.specs.Line.{line_of, last_line_of}
use Rattle.yds_kernel.specs.Stamp.{last_byte}

-- what the lines say in their order, up to the first that is refused
pub record Trace : Type 0 where
  pub said : List Said
  pub fault : Option (Fault Reason)

abbrev pub no_line : Trace
no_line = record { said = []; fault = None }

-- what the line of this number says, before what the other lines say
abbrev pub then_says : ℕ → Result Said (Spot Reason) → Trace → Trace
then_says number (Ok first) trace = record { said = first ∷ trace.said; fault = trace.fault }
then_says number (Err spot) trace = record { said = []; fault = Some (record { line = number; column = spot.column; reason = spot.reason }) }

-- the lines of a text that a line feed ends, or doesn't
abbrev pub said_of : Bool → List Line → Trace
said_of ended [] = no_line
said_of ended (line ∷ []) = then_says line.number (if ended then line_of line.text else last_line_of line.text) no_line
said_of ended (line ∷ next ∷ lines) = then_says line.number (line_of line.text) (said_of ended (next ∷ lines))

-- the trace that these bytes are, where their first line has this number
abbrev pub trace_from : ℕ → List ℕ → Trace
trace_from number bytes = said_of (last_byte bytes == 10) (map trimmed (lines_from number 0 bytes))

-- the trace that these bytes are
abbrev pub trace_of : List ℕ → Trace
trace_of bytes = trace_from 1 bytes
