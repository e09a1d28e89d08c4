-- What a place for a line holds.
use Rattle.std.specs.Prelude.{◌≡◌, ℕ, List}
use Rattle.yds_kernel.specs.Event.{Happening, Switch, WakeUp, Speed, Loss, Marker, Other, Said, Stamped, Lost, Nothing}
use Rattle.yds_kernel_order.specs.declared.slot.What.{What}
use Rattle.yds_kernel_order.specs.declared.slot.What.TheVariants as what

abbrev pub event_held : ℕ → ℕ → Happening → Said
event_held processor time happening = Stamped (record { processor = processor; time = time; happening = happening })

-- what the line says, with these names
abbrev pub said_held : What → ℕ → ℕ → List ℕ → List ℕ → Said
said_held (what.Switch previous state next) processor time first second =
    event_held processor time (Switch (record { name = first; pid = previous }) state (record { name = second; pid = next }))
said_held (what.WakeUp pid starts) processor time first second = event_held processor time (WakeUp (record { name = first; pid = pid }) starts)
said_held (what.Speed of khz) processor time first second = event_held processor time (Speed of khz)
said_held what.Loss processor time first second = event_held processor time Loss
said_held what.Marker processor time first second = event_held processor time Marker
said_held what.Other processor time first second = event_held processor time Other
said_held (what.Lost since) processor time first second = Lost processor since
said_held what.Nothing processor time first second = Nothing

-- What is no event has the time 0, so that no event is before it.
abbrev pub IsTimed : What → ℕ → Type 0
IsTimed (what.Lost since) time = time ≡ 0
IsTimed what.Nothing time = time ≡ 0
IsTimed event time = Unit {0}
