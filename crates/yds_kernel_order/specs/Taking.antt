-- What the steps within a reader of lines in order of time do.
use Rattle.std.specs.Prelude.{◌≡◌, ℕ, ◌+◌, ◌-◌, ◌^◌, ◌<◌, List, [], ◌∷◌, ◌++◌, length, Bool, false, nat_le, Option, Some, None, Result, Ok, Err}
use Rattle.base.specs.Fields.{Spot}
use Rattle.yds_port.specs.Count.{Rose}
use Rattle.yds_kernel.specs.declared.fault.Reason.{Reason}
use Rattle.yds_kernel.specs.Event.{Said}
use Rattle.yds_kernel_text.specs.Reading.{said_by}
use Rattle.yds_kernel_order.specs.declared.limits.TheConstants.{MAX_PASSED}
use Rattle.yds_kernel_order.specs.declared.step.Step.{Step}
use Rattle.yds_kernel_order.specs.declared.step.Step.TheVariants as steps
use Rattle.yds_kernel_order.specs.Order.{Placed, next_placed}
use Rattle.yds_kernel_order.specs.Ordering.{Ordering, Stop, AtEnd, AtFault, IsGiven, IsOrderOf}
use Rattle.yds_kernel_order.specs.Ring.{IsFirst}
use Rattle.yds_kernel_order.specs.Advancing.{IsTooLong}

-- a line may still come that is put before the first one that waits, where so many wait
abbrev pub may_come : Option Stop → ℕ → Bool
may_come None waiting = nat_le waiting MAX_PASSED
may_come (Some stop) waiting = false

abbrev pub needs_more : Ordering → Bool
needs_more ordering = may_come ordering.stop (length ordering.waiting)

-- how many lines the text may still have
abbrev pub lines_left : Ordering → ℕ
lines_left ordering = elim ordering.stop [ None ↦ (2 ^ 64 - ordering.reader.number) + 1 | Some stop ↦ 0 ]

-- # A line of the text

-- what was said is put among the lines that wait, or the reading stops at it
abbrev pub PutsSaid : Result Said (Spot Reason) → Ordering → Ordering → Type 0
PutsSaid (Ok said) old new =
    (new.stop ≡ old.stop) × (new.lines ≡ old.reader.number)
    × ((given : List Placed) → IsGiven old given → IsGiven new given)
    × ((given : List Placed) → IsGiven old given → new.waiting ++ given ≡ next_placed old.reader.number said (old.waiting ++ given))
PutsSaid (Err spot) old new =
    (new.stop ≡ Some (AtFault (record { line = old.reader.number; column = spot.column; reason = spot.reason })))
    × (new.lines ≡ old.lines) × (new.waiting ≡ old.waiting) × (new.given ≡ old.given)

pub record PutsLine (old new : Ordering) : Type 0 where
  pub reader : new.reader ≡ old.reader
  pub counted : old.reader.number < 2 ^ 64
  pub said : PutsSaid (said_by old.reader) old new

abbrev pub Puts : Result (Unit {0}) Step → Ordering → Ordering → Type 0
Puts (Ok done) old new = PutsLine old new
Puts (Err steps.Memory) old new = new.reader ≡ old.reader
Puts (Err step) old new = ⊥

-- # A line that was read

-- a line was taken, or the reading stopped
pub record TakesOne (old new : Ordering) (before now : Option (List ℕ)) (faults_before faults_now : ℕ) : Type 0 where
  pub given : (given : List Placed) → IsGiven old given → IsGiven new given
  pub order : (input : List ℕ) (given : List Placed) → IsGiven old given → IsOrderOf input old given before
      → IsOrderOf input new given now
  pub fewer : lines_left new < lines_left old
  pub no_fault : faults_now ≡ faults_before

abbrev pub Takes : Result (Unit {0}) Step → Ordering → Ordering → Option (List ℕ) → Option (List ℕ) → ℕ → ℕ → Type 0
Takes (Ok done) old new before now faults_before faults_now = TakesOne old new before now faults_before faults_now
Takes (Err steps.Failed) old new before now faults_before faults_now = Rose faults_before faults_now
Takes (Err steps.TooLong) old new before now faults_before faults_now = IsTooLong new faults_before faults_now
Takes (Err steps.Memory) old new before now faults_before faults_now = faults_now ≡ faults_before
Takes (Err step) old new before now faults_before faults_now = ⊥

-- # The next line

-- lines were taken, as many as the place of the next one needs
pub record ReadsAhead (old new : Ordering) (before now : Option (List ℕ)) (faults_before faults_now : ℕ) : Type 0 where
  pub given : (given : List Placed) → IsGiven old given → IsGiven new given
  pub order : (input : List ℕ) (given : List Placed) → IsGiven old given → IsOrderOf input old given before
      → IsOrderOf input new given now
  pub enough : needs_more new ≡ false
  pub no_fault : faults_now ≡ faults_before

abbrev pub ReadsOn : Result (Unit {0}) Step → Ordering → Ordering → Option (List ℕ) → Option (List ℕ) → ℕ → ℕ → Type 0
ReadsOn (Ok done) old new before now faults_before faults_now = ReadsAhead old new before now faults_before faults_now
ReadsOn (Err steps.Failed) old new before now faults_before faults_now = Rose faults_before faults_now
ReadsOn (Err steps.TooLong) old new before now faults_before faults_now = IsTooLong new faults_before faults_now
ReadsOn (Err steps.Memory) old new before now faults_before faults_now = faults_now ≡ faults_before
ReadsOn (Err step) old new before now faults_before faults_now = ⊥

-- the first line that waits says this
pub record IsNext (said : Said) (ordering : Ordering) : Type 0 where
  pub line : Placed
  pub is_first : IsFirst line ordering.waiting
  pub says : line.said ≡ said

-- # A line that is given

-- the first line that waited was given, and nothing was read
pub record GivesWaiting (old new : Ordering) : Type 0 where
  pub line : Placed
  pub first : old.waiting ≡ new.waiting ++ line ∷ []
  pub given : new.given ≡ Some line
  pub reader : new.reader ≡ old.reader
  pub lines : new.lines ≡ old.lines
  pub stop : new.stop ≡ old.stop

-- nothing waited where the reading stopped so
pub record GivesNone (stop : Stop) (old new : Ordering) : Type 0 where
  pub same : new ≡ old
  pub none : old.waiting ≡ []
  pub stopped : old.stop ≡ Some stop

abbrev pub GivesNext : Step → Ordering → Ordering → Type 0
GivesNext steps.Line old new = GivesWaiting old new
GivesNext steps.End old new = GivesNone AtEnd old new
GivesNext (steps.Refused number fault) old new =
    GivesNone (AtFault (record { line = number; column = fault.column; reason = fault.reason })) old new
GivesNext step old new = ⊥
