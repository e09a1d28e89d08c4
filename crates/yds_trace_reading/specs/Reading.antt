-- What a pass over the bytes of a trace ends with.
use Rattle.std.specs.Prelude.{◌≡◌, ℕ, ◌+◌, ◌^◌, ◌≤◌, ◌⊎◌, ⊤, List, [], length, Option, Some, None}
use Rattle.yds_port.specs.Count.{Rose}
use Rattle.yds_kernel.specs.Event.{Said}
use Rattle.yds_kernel.specs.Text.{trace_of}
use Rattle.yds_kernel_order.specs.Order.{order_of}
use Rattle.yds_kernel_text.specs.declared.limits.TheConstants.{ROOM}
use Rattle.yds_trace.specs.declared.ended.Ended.{Ended}
use Rattle.yds_trace.specs.Asked.{Asked}
use Rattle.yds_trace.specs.Ended.{IsEnded}
use Rattle.yds_trace.specs.Faults.{first_fault}
use Rattle.yds_trace_bounds.specs.declared.bounds.Bounds.{Bounds}
use Rattle.yds_trace_bounds.specs.Bounds.{asked_from}
use Rattle.yds_trace_reading.specs.declared.stopped.Stopped.{Stopped}
use Rattle.yds_trace_reading.specs.declared.stopped.Stopped.TheVariants as stops
use Rattle.yds_trace_reading.specs.LineFault.{InForm, AtLine, past_of, line_fault, line_fault_of}

-- it was read whole, none of its lines is refused, and this is known at its end
pub record IsRead (asked : Asked) (input : List ℕ) (ended : Ended) : Type 0 where
  pub sound : line_fault asked (order_of input) ≡ None
  pub known : IsEnded asked (past_of (order_of input)) ended

-- Some lines without a fault end so. It is so of each source, one that doesn't tell its bytes, too.
pub record IsEndOfSome (asked : Asked) (ended : Ended) : Type 0 where
  pub past : List Said
  pub sound : first_fault asked past ≡ None
  pub known : IsEnded asked past ended

-- Its bytes or its lines are as many as 64 bits count, but for one buffer.
abbrev pub IsTooLong : List ℕ → Type 0
IsTooLong input = (2 ^ 64 ≤ length input + ROOM) ⊎ (2 ^ 64 ≤ length (trace_of input).said + 1)

-- Why it wasn't read whole: the first line in order of time that is refused, by its number in the text, or what is no fault of its lines.
abbrev pub IsStopped : Asked → List ℕ → Stopped → Type 0
IsStopped asked input (stops.InForm number fault) =
    line_fault_of asked input ≡ Some (InForm (record { line = number; column = fault.column; reason = fault.reason }))
IsStopped asked input (stops.AtLine number cause) = line_fault_of asked input ≡ Some (AtLine number cause)
IsStopped asked input stops.NoFirst = ⊥
IsStopped asked input stops.TooLong = IsTooLong input
IsStopped asked input stops.ReadFault = Unit {0}
IsStopped asked input stops.Memory = Unit {0}

-- # Within bounds, by what is asked within them

abbrev pub IsReadIn : Option Asked → List ℕ → Ended → Type 0
IsReadIn None input ended = ⊥
IsReadIn (Some asked) input ended = IsRead asked input ended

-- Where they count from a first event that was lost, that is the cause, or what is no fault of the trace's lines.
abbrev pub IsStoppedIn : Option Asked → List ℕ → Stopped → Type 0
IsStoppedIn (Some asked) input stopped = IsStopped asked input stopped
IsStoppedIn None input stops.NoFirst = Unit {0}
IsStoppedIn None input stops.TooLong = IsTooLong input
IsStoppedIn None input stops.ReadFault = Unit {0}
IsStoppedIn None input stops.Memory = Unit {0}
IsStoppedIn None input stopped = ⊥

-- some lines without a fault end so, from a first event at some time on
pub record IsEndWithin (bounds : Bounds) (asked : Asked) (ended : Ended) : Type 0 where
  pub first : ℕ
  pub of_some : IsEndOfSome (asked_from first bounds asked) ended

-- # What is left

-- No more is left than there was, where the source tells it.
abbrev pub IsRest : Option (List ℕ) → Option (List ℕ) → Type 0
IsRest None now = ⊤
IsRest (Some input) None = ⊥
IsRest (Some input) (Some rest) = length rest ≤ length input

-- Nothing is left of the input, or a read of it failed, or its bytes are as many as 64 bits count.
abbrev pub IsReadOut : List ℕ → Option (List ℕ) → ℕ → ℕ → Type 0
IsReadOut input left faults_before faults_now = (left ≡ Some []) ⊎ Rose faults_before faults_now ⊎ (2 ^ 64 ≤ length input + 1)
