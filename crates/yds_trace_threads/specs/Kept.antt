-- What the code keeps of a trace, against the definitions.
use Rattle.std.specs.Prelude.{◌≡◌, ℕ, ◌+◌, ◌<◌, ◌≤◌, List, [], ◌∷◌, take, map, Bool, false, not, ◌==◌, ◌&&◌, if◌then◌else◌, Option, Some, None, slice_get, nat_eq}
use Rattle.std.specs.List.{list_any, slice_index_or}
use Rattle.indexmap.specs.IndexSet.{IsUnique}
use Rattle.yds_kernel.specs.Event.{Said, Stamped, Lost, Nothing}
use Rattle.yds_kernel.specs.Parts.{capped}
use Rattle.yds_trace.specs.declared.limits.TheConstants.{MAX_PROCESSOR}
use Rattle.yds_trace.specs.Past.{last_time}
use Rattle.yds_trace.specs.Faults.{has_stamp}
use Rattle.yds_trace_threads.specs.declared.act.Deed.{Deed}
use Rattle.yds_trace_threads.specs.declared.act.Deed.TheVariants as deeds
use Rattle.yds_trace_threads.specs.declared.act.Holder.{Holder}
use Rattle.yds_trace_threads.specs.declared.kept.Kept.{Kept}
use Rattle.yds_trace_threads.specs.declared.threads.Threads.{Threads}
use Rattle.yds_trace_threads.specs.declared.processors.Processors.{Processors}
use Rattle.yds_trace_threads.specs.declared.tally.Tally.{Tally}
use Rattle.yds_trace_threads.specs.declared.limits.TheConstants.{PROCESSORS, MOST_THREADS, MOST_NAME}
use Rattle.yds_trace_threads.specs.Acts.{Act, holder, acts}
use Rattle.yds_trace_threads.specs.Threads.{threads_of, own, name_of, ran_in, is_coming, switches_in, is_waking, is_woken, wake_ups_in}
use Rattle.yds_trace_threads.specs.declared.halt.Halt.{Halt}
use Rattle.yds_trace_threads.specs.declared.halt.Halt.TheVariants as halts
use Rattle.yds_trace_threads.specs.Faults.{said_fault, whole_fault}
use Rattle.yds_trace_threads.specs.Table.{Row, table_of}

-- # One thread

-- what is kept of a thread
pub record Facts : Type 0 where
  pub pid : ℕ
  pub name : List ℕ
  pub ran : ℕ
  pub wake_ups : ℕ
  pub switches : ℕ
  pub woken : Bool

abbrev pub facts_read : Kept → Facts
facts_read kept = record {
  pid = kept.pid;
  name = kept.name.items;
  ran = kept.ran;
  wake_ups = kept.wake_ups;
  switches = kept.switches;
  woken = kept.woken;
}

abbrev pub row_read : Kept → Row
row_read kept = record { pid = kept.pid; name = kept.name.items; ran = kept.ran; wake_ups = kept.wake_ups; switches = kept.switches }

-- what is kept of a thread that has done nothing
abbrev pub nothing_of : ℕ → Facts
nothing_of pid = record { pid = pid; name = []; ran = 0; wake_ups = 0; switches = 0; woken = false }

-- one more, of as many as 64 bits count
abbrev pub one_more_if : Bool → ℕ → ℕ
one_more_if counts number = if counts then capped (number + 1) else number

abbrev pub time_behind : Deed → ℕ → ℕ
time_behind (deeds.Leaves time) ran = capped (ran + time)
time_behind _ ran = ran

-- what is kept behind an act of the thread
abbrev pub facts_behind : List ℕ → Deed → Facts → Facts
facts_behind name deed facts = record {
  pid = facts.pid;
  name = take MOST_NAME name;
  ran = time_behind deed facts.ran;
  wake_ups = one_more_if (is_waking deed && not facts.woken) facts.wake_ups;
  switches = one_more_if (is_coming deed) facts.switches;
  woken = is_waking deed;
}

-- with so much more time
abbrev pub facts_with : ℕ → Facts → Facts
facts_with time facts = record facts { ran = capped (facts.ran + time) }

-- what is kept of a thread that did this itself, and ran for so long beside it
abbrev pub facts_from : ℕ → ℕ → List Act → Facts
facts_from pid more mine = record {
  pid = pid;
  name = name_of mine;
  ran = capped (ran_in mine + more);
  wake_ups = capped (wake_ups_in mine);
  switches = capped (switches_in mine);
  woken = is_woken mine;
}

abbrev pub facts_of : List Act → (ℕ → ℕ) → ℕ → Facts
facts_of acts more pid = facts_from pid (more pid) (own pid acts)

-- # All threads

abbrev pub rows_kept : List Kept → List Facts
rows_kept kept = map facts_read kept

-- These threads are numbered, and of the first of them it is kept what they did.
pub record Holds (pids : List ℕ) (acts : List Act) (more : ℕ → ℕ) (threads : Threads) : Type 0 where
  pub numbers : threads.pids.keys ≡ pids
  pub rows : rows_kept threads.kept.items ≡ map (facts_of acts more) (take MOST_THREADS pids)
  pub different : IsUnique nat_eq threads.pids

-- it is what threads did so far, and how long each ran beside it
abbrev pub IsThreads : List Act → (ℕ → ℕ) → Threads → Type 0
IsThreads acts more threads = Holds (threads_of acts) acts more threads

abbrev pub no_more : ℕ → ℕ
no_more pid = 0

abbrev pub more_for : ℕ → ℕ → (ℕ → ℕ) → ℕ → ℕ
more_for pid time more other = if pid == other then more other + time else more other

-- the place of a thread's number among those that are kept, where it has one
abbrev pub IsPlace : List ℕ → ℕ → Option ℕ → Type 0
IsPlace pids pid None = list_any (nat_eq pid) pids ≡ false
IsPlace pids pid (Some place) = slice_get pids place ≡ Some pid

-- # Processors

abbrev pub held_by : ℕ → List (Option Holder) → Option Holder
held_by processor holders = slice_index_or holders processor None

pub record IsProcessors (past : List Said) (processors : Processors) : Type 0 where
  pub held : (processor : ℕ) → processor < PROCESSORS → held_by processor processors.holders.items ≡ holder processor past
  pub last : processors.last ≡ last_time past
  pub stamped : processors.stamped ≡ has_stamp past

-- the processor that the line tells of is one of them
abbrev pub IsPlaced : Said → Type 0
IsPlaced (Stamped event) = event.processor ≤ MAX_PROCESSOR
IsPlaced (Lost processor since) = processor ≤ MAX_PROCESSOR
IsPlaced Nothing = Unit {0}

-- # All lines

pub record IsTally (past : List Said) (tally : Tally) : Type 0 where
  pub threads : IsThreads (acts past) no_more tally.threads
  pub processors : IsProcessors past tally.processors

-- # Refusals

-- The line was taken: it has no fault.
pub record IsTaken (past : List Said) (said : Said) (now : Tally) : Type 0 where
  pub sound : said_fault past said ≡ None
  pub stands : IsTally (said ∷ past) now

-- why the line of this number wasn't taken
abbrev pub IsNotTaken : List Said → ℕ → Said → Halt → Type 0
IsNotTaken past number said (halts.InForm at fault) = ⊥
IsNotTaken past number said (halts.AtLine at cause) = (at ≡ number) × (said_fault past said ≡ Some cause)
IsNotTaken past number said halts.Endless = ⊥
IsNotTaken past number said halts.ReadFault = ⊥
IsNotTaken past number said halts.WriteFault = ⊥
IsNotTaken past number said halts.Memory = Unit {0}

-- The whole trace isn't refused, and this is its table.
pub record IsTable (past : List Said) (text : List ℕ) : Type 0 where
  pub sound : whole_fault past ≡ None
  pub told : text ≡ table_of past

-- why there is no table behind the last line, which has this number
abbrev pub IsNoTable : List Said → ℕ → Halt → Type 0
IsNoTable past number (halts.InForm at fault) = ⊥
IsNoTable past number (halts.AtLine at cause) = (at ≡ number) × (whole_fault past ≡ Some cause)
IsNoTable past number halts.Endless = ⊥
IsNoTable past number halts.ReadFault = ⊥
IsNoTable past number halts.WriteFault = ⊥
IsNoTable past number halts.Memory = Unit {0}
