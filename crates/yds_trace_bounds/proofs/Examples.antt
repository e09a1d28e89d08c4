-- What is asked within bounds that count from the first event, and what is not.
use Rattle.base.proofs.Common.{◌≡◌, ℕ, List, [], ◌∷◌, Some, None, refl}
use Rattle.yds_kernel.specs.declared.loss.Since.{Since}
use Rattle.yds_kernel.specs.Event.{Said, Stamped, Lost, Other}
use Rattle.yds_kernel.specs.Text.{Trace}
use Rattle.yds_trace.specs.declared.limits.TheConstants.{MAX_TIME}
use Rattle.yds_trace.specs.Asked.{Asked}
use Rattle.yds_trace_bounds.specs.declared.bounds.Moment.TheVariants.{Clock, AfterFirst}
use Rattle.yds_trace_bounds.specs.declared.bounds.Bounds.{Bounds}
use Rattle.yds_trace_bounds.specs.Bounds.{asked_from, asked_in}

-- an event at this time
abbrev at : ℕ → Said
at time = Stamped (record { processor = 0; time = time; happening = Other })

-- these lines, none of which is refused
abbrev lines : List Said → Trace
lines said = record { said = said; fault = None }

-- from two seconds after the first event to a time of the clock
abbrev two_seconds : Bounds
two_seconds = record { from = Some (AfterFirst 2000000000); to = Some (Clock 9000000000) }

-- A trace whose first event is at five seconds is asked for from seven seconds on.
from_seven : (asked : Asked) → asked_in two_seconds asked (lines (at 5000000000 ∷ at 6000000000 ∷ []))
    ≡ Some (record asked { from = Some 7000000000; to = Some 9000000000 })
from_seven asked = refl

-- A near miss: where events were lost before the first one, it isn't known from when on.
lost_first : (asked : Asked) (since : Since) → asked_in two_seconds asked (lines (Lost 0 since ∷ at 5000000000 ∷ [])) ≡ None
lost_first asked since = refl

-- Bounds that are times of the clock don't ask for the first event.
by_clock : (asked : Asked) (since : Since) → asked_in (record { from = Some (Clock 7000000000); to = None }) asked (lines (Lost 0 since ∷ at 5000000000 ∷ []))
    ≡ Some (record asked { from = Some 7000000000; to = None })
by_clock asked since = refl

-- Behind the clock's last time there is none.
no_later : (asked : Asked) → asked_from 1 (record { from = None; to = Some (AfterFirst MAX_TIME) }) asked ≡ record asked { from = None; to = Some MAX_TIME }
no_later asked = refl
