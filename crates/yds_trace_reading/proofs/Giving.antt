-- What the lines that were given so far, in order of time, show of the whole trace.
use Rattle.base.proofs.Common.{◌≡◌, ℕ, ◌+◌, ◌≤◌, List, [], ◌∷◌, ◌++◌, length, Option, Some, None, true, Result, Ok, Err, refl, sym, ap, subst, ◌∙◌, arith}
use Rattle.std.specs.Prelude.{IfSome, OnOk}
use Rattle.base.specs.Fields.{Fault}
use Rattle.yds_kernel.specs.declared.fault.Reason.{Reason}
use Rattle.yds_kernel.specs.Parts.{or_else}
use Rattle.yds_kernel.specs.Event.{Said, Nothing}
use Rattle.yds_kernel.specs.Text.{trace_of}
use Rattle.yds_kernel_text.specs.Advancing.{Counts}
use Rattle.yds_kernel_order.specs.Order.{Placed, placed_of, said_in, order_of, number_at, line_at}
use Rattle.yds_kernel_order.specs.Ordering.{Order, Ordering, IsGiven, IsOrderOf, whole_order, number_now, said_now}
use Rattle.yds_kernel_order.specs.Advancing.{GivesLine, IsOver}
use Rattle.yds_kernel_order.proofs.Given.{Behind, first_order, given_front, number_of_next, past_in_order, said_behind}
use Rattle.yds_trace.specs.declared.fault.Cause.{Cause}
use Rattle.yds_trace_reading.specs.LineFault.{LineFault, AtLine, at_line, past_of, in_text}

-- These lines of the input were given, the last one first; and as many bytes were taken as the source has fewer.
pub record AreGiven (input : Option (List ℕ)) (ordering : Ordering) (left : Option (List ℕ)) (given : List Placed) : Type 0 where
  pub last : IsGiven ordering given
  pub in_order : IfSome input (λ bytes. IsOrderOf bytes ordering given left)
  pub counts : Counts input left 0 ordering.reader.taken

-- What was counted since the begin, and then by one step, is counted since the begin.
pub counts_on : (input before now : Option (List ℕ)) (old new : ℕ) → Counts input before 0 old → Counts before now old new → Counts input now 0 new
counts_on None before now old new first second = tt
counts_on (Some bytes) None now old new first second = absurd first
counts_on (Some bytes) (Some rest) None old new first second = absurd second
counts_on (Some bytes) (Some rest) (Some more) old new first second = omega (arith, first, second)

-- No more bytes were taken than the input has.
pub taken_bytes : (bytes : List ℕ) (left : Option (List ℕ)) (taken : ℕ) → Counts (Some bytes) left 0 taken → taken ≤ length bytes
taken_bytes bytes None taken counts = absurd counts
taken_bytes bytes (Some rest) taken counts = omega (arith, counts)

-- Of an error nothing is said that is said of a value.
pub none_said : (input : Option (List ℕ)) → IfSome input (λ bytes. Unit {0})
none_said None = tt
none_said (Some bytes) = tt

-- # Before the first line, and with a line more

-- what a new reader holds
abbrev pub before_all : Ordering
before_all = record {
  reader = record { left = []; text = []; ended = true; number = 0; taken = 0 };
  lines = 0;
  waiting = [];
  given = None;
  stop = None;
}

-- It gave no line of what its source has left.
pub first_of_all : (left : Option (List ℕ)) → AreGiven left before_all left []
first_of_all None = record { last = refl; in_order = tt; counts = tt }
first_of_all (Some bytes) = record { last = refl; in_order = first_order bytes before_all refl refl refl refl refl; counts = refl }

-- The same of a reader that is as a new one.
pub none_given : (left : Option (List ℕ)) (ordering : Ordering) → ordering ≡ before_all → AreGiven left ordering left []
none_given left ordering is = subst (λ (begin : Ordering). AreGiven left begin left []) (sym is) (first_of_all left)

-- With the line that a step gives.
pub one_given : (input : Option (List ℕ)) (old new : Ordering) (before left : Option (List ℕ)) (given : List Placed) (faults_before faults_now : ℕ)
    → AreGiven input old before given → (gives : GivesLine old new before left faults_before faults_now) → Counts before left old.reader.taken new.reader.taken
    → AreGiven input new left (gives.line ∷ given)
one_given None old new before left given faults_before faults_now known gives counts = record {
  last = gives.is_given given known.last;
  in_order = tt;
  counts = tt;
}
one_given (Some bytes) old new before left given faults_before faults_now known gives counts = record {
  last = gives.is_given given known.last;
  in_order = gives.in_order bytes given known.last known.in_order;
  counts = counts_on (Some bytes) before left old.reader.taken new.reader.taken known.counts counts;
}

-- the number of the line that was given
pub number_given : (ordering : Ordering) (line : Placed) → ordering.given ≡ Some line → number_now ordering ≡ line.number
number_given ordering line is = ap (λ (given : Option Placed). elim given as (λ _. ℕ) [ None ↦ ordering.lines | Some one ↦ one.number ]) is

-- and what it says
pub said_given : (ordering : Ordering) (line : Placed) → ordering.given ≡ Some line → said_now ordering ≡ line.said
said_given ordering line is = ap (λ (given : Option Placed). elim given as (λ _. Said) [ None ↦ Nothing | Some one ↦ one.said ]) is

-- # The first lines of the input

-- In order of time these are the first lines of the input, the last one first.
abbrev pub AreFirst : List ℕ → List Placed → Type 0
AreFirst bytes given = Behind 0 (placed_of (trace_of bytes)) given

-- What was given is the first of it.
pub first_given : (bytes : List ℕ) (ordering : Ordering) (left : Option (List ℕ)) (given : List Placed) → AreGiven (Some bytes) ordering left given → AreFirst bytes given
first_given bytes ordering left given known = given_front bytes ordering given left known.last known.in_order

-- What the input says in order of time is what they say, and then what the lines behind them say.
pub past_behind : (bytes : List ℕ) (given : List Placed) (first : AreFirst bytes given) → past_of (order_of bytes) ≡ said_in first.behind ++ said_in given
past_behind bytes given first =
    past_in_order (trace_of bytes) ∙ ap said_in first.parts ∙ said_behind first.behind given

-- the number in the text of the last one of them
pub number_of_last : (bytes : List ℕ) (line : Placed) (given : List Placed) → AreFirst bytes (line ∷ given) → line_at bytes (length given + 1) ≡ line.number
number_of_last bytes line given first =
    ap (λ (placed : List Placed). number_at (length (trace_of bytes).said) placed (length given + 1)) first.parts
    ∙ number_of_next (length (trace_of bytes).said) first.behind given line

-- # All lines of the input

-- In order of time these are all lines of the input, the last one first, and this is the fault of form behind them.
pub record AreAll (bytes : List ℕ) (given : List Placed) (fault : Option (Fault Reason)) : Type 0 where
  pub past : past_of (order_of bytes) ≡ said_in given
  pub form : (order_of bytes).fault ≡ fault

-- So it is where the order of the input has just these lines.
pub all_given : (bytes : List ℕ) (given : List Placed) (lines : ℕ) (fault : Option (Fault Reason)) → whole_order (trace_of bytes) ≡ record { placed = given; lines = lines; fault = fault }
    → AreAll bytes given fault
all_given bytes given lines fault is = record {
  past = past_in_order (trace_of bytes) ∙ ap (λ (order : Order). said_in order.placed) is;
  form = ap (λ (order : Order). order.fault) is;
}

-- the number in the text of the last place
pub number_at_end : (bytes : List ℕ) (given : List Placed) (lines : ℕ) (fault : Option (Fault Reason)) → whole_order (trace_of bytes) ≡ record { placed = given; lines = lines; fault = fault }
    → line_at bytes (length given) ≡ number_at lines given (length given)
number_at_end bytes given lines fault is = ap (λ (order : Order). number_at order.lines order.placed (length given)) is

-- At the end the source has nothing left.
pub none_left : {A E : Type 0} (input before left : Option (List ℕ)) (old new : Ordering) (given : List Placed) (faults_before faults_now : ℕ) (result : Result A E)
    → AreGiven input old before given → IsOver old new before left faults_before faults_now → IfSome input (λ bytes. OnOk result (left ≡ Some []))
none_left None before left old new given faults_before faults_now result known over = tt
none_left (Some bytes) before left old new given faults_before faults_now (Err error) known over = tt
none_left (Some bytes) before left old new given faults_before faults_now (Ok value) known over = over.none_left bytes given known.last known.in_order

-- # Faults

-- A fault that is found at a place comes before all others, and is told with the number in the text.
pub told_in_text : (bytes : List ℕ) (found : Option (ℕ × Cause)) (others : Option LineFault) (place number : ℕ) (cause : Cause)
    → found ≡ Some (place, cause) → line_at bytes place ≡ number → in_text bytes (or_else (at_line found) others) ≡ Some (AtLine number cause)
told_in_text bytes found others place number cause is same =
    ap (λ (one : Option (ℕ × Cause)). in_text bytes (or_else (at_line one) others)) is ∙ ap (λ (n : ℕ). Some (AtLine n cause)) same
