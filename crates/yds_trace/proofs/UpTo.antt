-- The lines that count, one line after another.
use Rattle.base.proofs.Common.{◌≡◌, ◌∙◌, ℕ, ◌∷◌, List, false, if◌then◌else◌, Option, Some, None, refl, ap}
use Rattle.yds_kernel.specs.declared.state.State.{State}
use Rattle.yds_kernel.specs.declared.state.State.TheVariants as states
use Rattle.yds_kernel.specs.declared.loss.Since.{Since}
use Rattle.yds_kernel.specs.Parts.{or_else}
use Rattle.yds_kernel.specs.Event.{Thread, Switch, Said, Stamped, Lost, Event}
use Rattle.yds_trace.specs.declared.fault.Cause.{Cause}
use Rattle.yds_trace.specs.Asked.{is_within_to}
use Rattle.yds_trace.specs.Past.{lost_since, has_switched, counts, is_first_switch, up_to}

pub up_to_lost : (to : Option ℕ) (processor : ℕ) (reach : Since) (past : List Said) →
    up_to to (Lost processor reach ∷ past)
    ≡ (if is_within_to to (lost_since processor reach past) then Lost processor reach ∷ up_to to past else up_to to past)
up_to_lost None processor reach past = refl
up_to_lost (Some to) processor reach past = refl

-- a thread leaves after `to` that had its processor until then
abbrev pub staying : ℕ → ℕ → Thread → Said
staying processor to thread = Stamped (record { processor = processor; time = to; happening = Switch thread states.GoesOn thread })

pub up_to_stays : (asked : Option ℕ) (to : ℕ) (event : Event) (past : List Said) (previous : Thread) (state : State) (next : Thread) →
    asked ≡ Some to → counts to event past ≡ false → event.happening ≡ Switch previous state next →
    has_switched event.processor (up_to asked past) ≡ false →
    up_to asked (Stamped event ∷ past) ≡ staying event.processor to previous ∷ up_to asked past
up_to_stays None to event past previous state next is late happening first = cc
up_to_stays (Some other) to event past previous state next is late happening first =
    let same : other ≡ to = cc in
    let later : counts other event past ≡ false = ap (λ (time : ℕ). counts time event past) same ∙ late in
    rw (later, happening, first) (ap (λ (time : ℕ). staying event.processor time previous ∷ up_to (Some other) past) same)

pub up_to_passes : (asked : Option ℕ) (to : ℕ) (event : Event) (past : List Said) →
    asked ≡ Some to → counts to event past ≡ false → is_first_switch event (up_to asked past) ≡ false →
    up_to asked (Stamped event ∷ past) ≡ up_to asked past
up_to_passes None to event past is late passes = cc
up_to_passes (Some other) to event past is late passes =
    let same : other ≡ to = cc in
    let later : counts other event past ≡ false = ap (λ (time : ℕ). counts time event past) same ∙ late in
    rw (later, passes)

-- # Faults

pub first_alone : (a b : Option Cause) → or_else a b ≡ None → or_else a None ≡ None
first_alone None b none = refl
first_alone (Some cause) b none = cc
