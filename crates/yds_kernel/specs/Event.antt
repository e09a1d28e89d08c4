-- What an event of a trace is.
use Rattle.std.specs.Prelude.{ℕ, List, Bool}
use Rattle.yds_kernel.specs.declared.state.State.{State}
use Rattle.yds_kernel.specs.declared.loss.Since.{Since}

-- a thread: its name as the line has it, and its number
pub record Thread : Type 0 where
  pub name : List ℕ
  pub pid : ℕ

pub data Happening : Type 0 where
  -- who leaves the processor, in which state, and who comes
  Switch : (previous : Thread) → (state : State) → (next : Thread) → Happening
  -- who is woken; whether this starts the wake-up, or tells that it was done
  WakeUp : (thread : Thread) → (starts : Bool) → Happening
  -- a processor's new speed, in kilohertz
  Speed : (processor khz : ℕ) → Happening
  -- events of the processor were lost
  Loss : Happening
  -- what an application wrote
  Marker : Happening
  -- an event that doesn't matter
  Other : Happening

-- on which processor, when in nanoseconds, and what
pub record Event : Type 0 where
  pub processor : ℕ
  pub time : ℕ
  pub happening : Happening

-- what a line says: an event, or that events of a processor were lost, or nothing
pub data Said : Type 0 where
  Stamped : (event : Event) → Said
  Lost : (processor : ℕ) → (since : Since) → Said
  Nothing : Said
