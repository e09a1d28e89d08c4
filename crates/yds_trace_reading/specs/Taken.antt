-- What became of a line.
use Rattle.std.specs.Prelude.{◌≡◌, ℕ, List, ◌∷◌, Some, None}
use Rattle.yds_kernel.specs.Event.{Said}
use Rattle.yds_trace.specs.declared.pass.Pass.{Pass}
use Rattle.yds_trace.specs.Asked.{Asked}
use Rattle.yds_trace.specs.declared.ended.Ended.{Ended}
use Rattle.yds_trace.specs.Ended.{IsEnded}
use Rattle.yds_trace.specs.Faults.{said_fault, whole_fault}
use Rattle.yds_trace.specs.Kept.{IsAt}
use Rattle.yds_trace_reading.specs.declared.stopped.Stopped.{Stopped}
use Rattle.yds_trace_reading.specs.declared.stopped.Stopped.TheVariants as stops

-- The line was taken: it has no fault.
pub record IsTaken (asked : Asked) (past : List Said) (said : Said) (now : Pass) : Type 0 where
  pub sound : said_fault asked past said ≡ None
  pub stands : IsAt asked (said ∷ past) now

-- why the line of this number wasn't taken
abbrev pub IsNotTaken : Asked → List Said → ℕ → Said → Stopped → Type 0
IsNotTaken asked past number said (stops.InForm at fault) = ⊥
IsNotTaken asked past number said (stops.AtLine at cause) = (at ≡ number) × (said_fault asked past said ≡ Some cause)
IsNotTaken asked past number said stops.NoFirst = ⊥
IsNotTaken asked past number said stops.TooLong = ⊥
IsNotTaken asked past number said stops.ReadFault = ⊥
IsNotTaken asked past number said stops.Memory = Unit {0}

-- the trace as a whole isn't refused, and this is known at its end
pub record IsKnown (asked : Asked) (past : List Said) (ended : Ended) : Type 0 where
  pub sound : whole_fault asked past ≡ None
  pub known : IsEnded asked past ended

-- why it isn't known behind the last line, which has this number
abbrev pub IsNotKnown : Asked → List Said → ℕ → Stopped → Type 0
IsNotKnown asked past number (stops.InForm at fault) = ⊥
IsNotKnown asked past number (stops.AtLine at cause) = (at ≡ number) × (whole_fault asked past ≡ Some cause)
IsNotKnown asked past number stops.NoFirst = ⊥
IsNotKnown asked past number stops.TooLong = ⊥
IsNotKnown asked past number stops.ReadFault = ⊥
IsNotKnown asked past number stops.Memory = Unit {0}
