-- What one step of a reader of lines in order of time gives: the next line, the end, the line that is refused, or that it can't go on.
use Rattle.std.specs.Prelude.{◌≡◌, ℕ, ◌+◌, ◌^◌, ◌≤◌, List, [], ◌∷◌, length, Option, Some, None}
use Rattle.yds_port.specs.Count.{Rose}
use Rattle.yds_kernel.specs.declared.fault.LineFault.{LineFault}
use Rattle.yds_kernel.specs.Text.{trace_of}
use Rattle.yds_kernel_text.specs.declared.limits.TheConstants.{ROOM}
use Rattle.yds_kernel_order.specs.declared.step.Step.{Step}
use Rattle.yds_kernel_order.specs.declared.step.Step.TheVariants as steps
use Rattle.yds_kernel_order.specs.Order.{Placed, number_at}
use Rattle.yds_kernel_order.specs.Ordering.{Ordering, IsGiven, IsOrderOf, whole_order, number_now}

-- the next line was given
pub record GivesLine (old new : Ordering) (before now : Option (List ℕ)) (faults_before faults_now : ℕ) : Type 0 where
  pub line : Placed
  pub is_last : new.given ≡ Some line
  pub is_given : (given : List Placed) → IsGiven old given → IsGiven new (line ∷ given)
  pub in_order : (input : List ℕ) (given : List Placed) → IsGiven old given → IsOrderOf input old given before
      → IsOrderOf input new (line ∷ given) now
  pub no_fault : faults_now ≡ faults_before

-- each line was given
pub record IsOver (old new : Ordering) (before now : Option (List ℕ)) (faults_before faults_now : ℕ) : Type 0 where
  pub whole : (input : List ℕ) (given : List Placed) → IsGiven old given → IsOrderOf input old given before
      → whole_order (trace_of input) ≡ record { placed = given; lines = new.lines; fault = None }
  pub number : (given : List Placed) → IsGiven old given → number_now new ≡ number_at new.lines given (length given)
  pub none_left : (input : List ℕ) (given : List Placed) → IsGiven old given → IsOrderOf input old given before → now ≡ Some []
  pub no_fault : faults_now ≡ faults_before

-- each line before the one of this number was given, whose form is refused
pub record IsRefused (at : ℕ) (fault : LineFault) (old new : Ordering) (before now : Option (List ℕ)) (faults_before faults_now : ℕ) : Type 0 where
  pub whole : (input : List ℕ) (given : List Placed) → IsGiven old given → IsOrderOf input old given before
      → whole_order (trace_of input)
      ≡ record { placed = given; lines = new.lines; fault = Some (record { line = at; column = fault.column; reason = fault.reason }) }
  pub no_fault : faults_now ≡ faults_before

-- as many bytes were taken as can be counted, but for one buffer
pub record IsTooLong (new : Ordering) (faults_before faults_now : ℕ) : Type 0 where
  pub counted : 2 ^ 64 ≤ new.reader.taken + ROOM
  pub no_fault : faults_now ≡ faults_before

abbrev pub Advances : Step → Ordering → Ordering → Option (List ℕ) → Option (List ℕ) → ℕ → ℕ → Type 0
Advances steps.Line old new before now faults_before faults_now = GivesLine old new before now faults_before faults_now
Advances steps.End old new before now faults_before faults_now = IsOver old new before now faults_before faults_now
Advances (steps.Refused number fault) old new before now faults_before faults_now = IsRefused number fault old new before now faults_before faults_now
Advances steps.Failed old new before now faults_before faults_now = Rose faults_before faults_now
Advances steps.TooLong old new before now faults_before faults_now = IsTooLong new faults_before faults_now
Advances steps.Memory old new before now faults_before faults_now = faults_now ≡ faults_before
