-- What a reader of lines in order of time holds, and which order it stands for.
use Rattle.std.specs.Prelude.{◌≡◌, ℕ, ◌+◌, ◌≤◌, List, [], ◌∷◌, ◌++◌, length, Option, Some, None}
use Rattle.base.specs.Fields.{Fault}
use Rattle.yds_kernel.specs.declared.fault.Reason.{Reason}
use Rattle.yds_kernel.specs.Event.{Said, Nothing}
use Rattle.yds_kernel.specs.Text.{Trace, trace_of, trace_from}
use Rattle.yds_kernel_text.specs.Reading.{Reading}
use Rattle.yds_kernel_order.specs.declared.limits.TheConstants.{MAX_PASSED}
use Rattle.yds_kernel_order.specs.Order.{Placed, placed_of, placed_from}

-- A trace's lines in order of time, the last one first; how many lines the text has before the first one that is refused by its form; and
-- why that one is.
pub record Order : Type 0 where
  pub placed : List Placed
  pub lines : ℕ
  pub fault : Option (Fault Reason)

abbrev pub whole_order : Trace → Order
whole_order trace = record { placed = placed_of trace; lines = length trace.said; fault = trace.fault }

-- where the reading of the text stopped: at its end, or at a line that is refused
pub data Stop : Type 0 where
  AtEnd : Stop
  AtFault : (fault : Fault Reason) → Stop

-- The reader of lines; how many of them were taken, each without a fault; those that wait, the last one first; the one that was given last; and
-- where the reading stopped.
pub record Ordering : Type 0 where
  pub reader : Reading
  pub lines : ℕ
  pub waiting : List Placed
  pub given : Option Placed
  pub stop : Option Stop

-- the number of the line that was given last, or how many lines were taken where none was given
abbrev pub number_now : Ordering → ℕ
number_now ordering = elim ordering.given [ None ↦ ordering.lines | Some line ↦ line.number ]

-- what that line says
abbrev pub said_now : Ordering → Said
said_now ordering = elim ordering.given [ None ↦ Nothing | Some line ↦ line.said ]

-- # Which order it is

-- the order of these bytes' lines behind those that were placed, where so many lines were taken
abbrev pub order_behind : ℕ → List Placed → List ℕ → Order
order_behind lines placed bytes = record {
  placed = placed_from (lines + 1) (trace_from (lines + 1) bytes).said placed;
  lines = lines + length (trace_from (lines + 1) bytes).said;
  fault = (trace_from (lines + 1) bytes).fault;
}

-- the order of the whole, where these lines were placed and these bytes are unread
abbrev pub order_at : Option Stop → ℕ → List Placed → List ℕ → Order
order_at None lines placed bytes = order_behind lines placed bytes
order_at (Some AtEnd) lines placed bytes = record { placed = placed; lines = lines; fault = None }
order_at (Some (AtFault fault)) lines placed bytes = record { placed = placed; lines = lines; fault = Some fault }

-- the source has nothing left where the reading stopped at the end
abbrev pub IsReadTo : Option Stop → List ℕ → Type 0
IsReadTo None left = Unit {0}
IsReadTo (Some AtEnd) left = left ≡ []
IsReadTo (Some (AtFault fault)) left = Unit {0}

-- Up to where the reading stops each line was taken that was read.
abbrev pub IsCounted : Option Stop → ℕ → ℕ → Type 0
IsCounted None lines number = lines ≡ number
IsCounted (Some stop) lines number = Unit {0}

-- It stands for the order of this input, where these lines were given, the last one first, and the source has these bytes left.
pub record StandsFor (input : List ℕ) (ordering : Ordering) (given : List Placed) (left : List ℕ) : Type 0 where
  pub order : whole_order (trace_of input) ≡ order_at ordering.stop ordering.lines (ordering.waiting ++ given) (ordering.reader.left ++ left)
  pub read_to : IsReadTo ordering.stop left
  pub counted : IsCounted ordering.stop ordering.lines ordering.reader.number

-- the same where the source tells what it has left
abbrev pub IsOrderOf : List ℕ → Ordering → List Placed → Option (List ℕ) → Type 0
IsOrderOf input ordering given None = ⊥
IsOrderOf input ordering given (Some left) = StandsFor input ordering given left

-- # Which lines were given

-- As many wait as a line may be put before, or no line comes any more.
abbrev pub HoldsEnough : Option Stop → List Placed → Type 0
HoldsEnough None waiting = MAX_PASSED ≤ length waiting
HoldsEnough (Some stop) waiting = Unit {0}

-- These lines were given, the last one first: no line that still comes is put before one of them.
abbrev pub IsGiven : Ordering → List Placed → Type 0
IsGiven ordering [] = ordering.given ≡ None
IsGiven ordering (line ∷ before) = (ordering.given ≡ Some line) × HoldsEnough ordering.stop ordering.waiting
