-- What the lines of a trace tell of its threads. The last one stands first, as in a past.
use Rattle.std.specs.Prelude.{ℕ, ◌-◌, List, [], ◌∷◌, ◌++◌, ◌==◌, if◌then◌else◌, Option, Some, None}
use Rattle.yds_kernel.specs.Event.{Thread, Happening, Switch, WakeUp, Loss, Event, Said, Stamped, Lost, Nothing}
use Rattle.yds_trace_threads.specs.declared.act.Deed.{Deed}
use Rattle.yds_trace_threads.specs.declared.act.Deed.TheVariants as deeds
use Rattle.yds_trace_threads.specs.declared.act.Holder.{Holder}

-- # Who has a processor

-- Who comes has it from then on. Where events of it were lost, nobody is known to have it.
abbrev pub holder_at : ℕ → Happening → Option Holder → Option Holder
holder_at time (Switch previous state next) before = Some (record { pid = next.pid; since = time })
holder_at time Loss before = None
holder_at time _ before = before

-- who has this processor after these lines, and since when
abbrev pub holder : ℕ → List Said → Option Holder
holder processor [] = None
holder processor (Stamped event ∷ past) =
    if event.processor == processor then holder_at event.time event.happening (holder processor past) else holder processor past
holder processor (Lost other reach ∷ past) = if other == processor then None else holder processor past
holder processor (Nothing ∷ past) = holder processor past

-- How long this thread has had a processor by this time, in nanoseconds. Where another one is known to have it, or none, a switch is missing:
-- then this is 0.
abbrev pub had : ℕ → ℕ → Option Holder → ℕ
had pid time None = 0
had pid time (Some holder) = if holder.pid == pid then time - holder.since else 0

-- # What threads do

-- a thread, as the line has it, and what it does
pub record Act : Type 0 where
  pub thread : Thread
  pub deed : Deed

-- The idle one, of number 0, is no thread.
abbrev pub act_of : Thread → Deed → List Act
act_of thread deed = if thread.pid == 0 then [] else record { thread = thread; deed = deed } ∷ []

-- By a switch one thread leaves, and then another comes.
abbrev pub acts_at : Event → List Said → Happening → List Act
acts_at event past (Switch previous state next) =
    act_of next deeds.Comes ++ act_of previous (deeds.Leaves (had previous.pid event.time (holder event.processor past)))
acts_at event past (WakeUp thread starts) = act_of thread deeds.Wakes
acts_at event past _ = []

-- what threads did in these lines
abbrev pub acts : List Said → List Act
acts [] = []
acts (Stamped event ∷ past) = acts_at event past event.happening ++ acts past
acts (Lost processor reach ∷ past) = acts past
acts (Nothing ∷ past) = acts past
