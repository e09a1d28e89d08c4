-- What becomes of the bytes of a source whose threads are told.
use Rattle.std.specs.Prelude.{◌≡◌, ℕ, List, Option, Some, None, Result, Ok, Err}
use Rattle.std.specs.Io.KnownBytes.{Appends, Keeps}
use Rattle.yds_port.specs.Sink.{AppendsFront}
use Rattle.yds_kernel_order.specs.Order.{order_of}
use Rattle.yds_trace_reading.specs.LineFault.{InForm, AtLine, past_of}
use Rattle.yds_trace_reading.specs.Reading.{IsTooLong}
use Rattle.yds_trace_threads.specs.declared.halt.Halt.{Halt}
use Rattle.yds_trace_threads.specs.declared.halt.Halt.TheVariants as halts
use Rattle.yds_trace_threads.specs.Faults.{line_fault, line_fault_of}
use Rattle.yds_trace_threads.specs.Table.{table_of}

-- none of its lines is refused
abbrev pub IsSound : List ℕ → Type 0
IsSound input = line_fault (order_of input) ≡ None

-- the table of its threads
abbrev pub threads_text : List ℕ → List ℕ
threads_text input = table_of (past_of (order_of input))

-- Why a table wasn't made.
abbrev pub IsHalted : List ℕ → Halt → Type 0
IsHalted input (halts.InForm number fault) =
    line_fault_of input ≡ Some (InForm (record { line = number; column = fault.column; reason = fault.reason }))
IsHalted input (halts.AtLine number cause) = line_fault_of input ≡ Some (AtLine number cause)
IsHalted input halts.Endless = IsTooLong input
IsHalted input halts.ReadFault = Unit {0}
IsHalted input halts.WriteFault = IsSound input
IsHalted input halts.Memory = Unit {0}

-- the bytes are a trace without a fault, and this is its table
pub record IsMade (input text : List ℕ) : Type 0 where
  pub sound : IsSound input
  pub told : text ≡ threads_text input

-- The whole table was written, or a front of it up to a fault of the sink, or nothing.
abbrev pub Writes : List ℕ → Result (Unit {0}) Halt → Option (List ℕ) → Option (List ℕ) → Type 0
Writes input (Ok done) old new = IsSound input × Appends old new (threads_text input)
Writes input (Err halts.WriteFault) old new = IsSound input × AppendsFront (threads_text input) old new
Writes input (Err halt) old new = IsHalted input halt × Keeps old new
