-- Lines of a trace in few words, in order of time: each of one processor, at so many nanoseconds.
use Rattle.base.proofs.Common.{ℕ, List, [], ◌∷◌, codes, true, false, Some, None}
use Rattle.yds_kernel.specs.declared.state.State.TheVariants as states
use Rattle.yds_kernel.specs.declared.loss.Since.TheVariants as since
use Rattle.yds_kernel.specs.Event.{Thread, Happening, Switch, WakeUp, Speed, Marker, Said, Stamped, Lost}
use Rattle.yds_trace.specs.declared.job.End.{End}
use Rattle.yds_trace.specs.declared.job.Stretch.{Stretch}
use Rattle.yds_trace.specs.Asked.{Named, Task, Same, Asked}
use Rattle.yds_trace.specs.Jobs.{Job}

-- # Threads

-- the thread that is asked for
abbrev pub t : Thread
t = record { name = codes "t"; pid = 7 }

-- another one, and the idle one
abbrev pub other : Thread
other = record { name = codes "other"; pid = 9 }

abbrev pub idle : Thread
idle = record { name = codes "swapper"; pid = 0 }

-- # Lines

abbrev pub line : ℕ → ℕ → Happening → Said
line processor time happening = Stamped (record { processor = processor; time = time; happening = happening })

abbrev pub woken : ℕ → Said
woken time = line 3 time (WakeUp t true)

-- its wake-up was done
abbrev pub is_awake : ℕ → Said
is_awake time = line 3 time (WakeUp t false)

-- it comes to the idle processor
abbrev pub comes : ℕ → ℕ → Said
comes processor time = line processor time (Switch idle states.GoesOn t)

-- it leaves it to sleep
abbrev pub sleeps : ℕ → ℕ → Said
sleeps processor time = line processor time (Switch t states.Sleeps idle)

-- it is over
abbrev pub exits : ℕ → ℕ → Said
exits processor time = line processor time (Switch t states.Exits idle)

-- it is preempted by another thread, and that gives the processor back
abbrev pub preempted : ℕ → ℕ → Said
preempted processor time = line processor time (Switch t states.GoesOn other)

abbrev pub back : ℕ → ℕ → Said
back processor time = line processor time (Switch other states.Sleeps t)

-- another thread comes to the idle processor, or leaves it
abbrev pub other_comes : ℕ → ℕ → Said
other_comes processor time = line processor time (Switch idle states.GoesOn other)

abbrev pub other_leaves : ℕ → ℕ → Said
other_leaves processor time = line processor time (Switch other states.Sleeps idle)

abbrev pub speed : ℕ → ℕ → ℕ → Said
speed processor time khz = line processor time (Speed processor khz)

abbrev pub marker : ℕ → ℕ → Said
marker processor time = line processor time Marker

-- it leaves the processor, and goes on later
abbrev pub gives_way : ℕ → ℕ → Said
gives_way processor time = line processor time (Switch t states.GoesOn idle)

-- events of a processor were lost since its last line
abbrev pub lost : ℕ → Said
lost processor = Lost processor since.ItsLastLine

-- # What is asked for

-- The jobs of `t` on processor 0, each due 100 after its begin. A unit of time is 10, and one of speed 1.
abbrev pub task : Task
task = record { label = codes "t"; thread = Named (codes "t"); deadline = 100; apart = 0; period = 0 }

abbrev pub of_task : Task → Asked
of_task task = record { tasks = task ∷ []; processor = 0; unit = 10; khz = 1; start = Same 5; from = None; to = None; begin_at_run = false; cut_losses = false; in_parts = false; everywhere = false; moved_parts = false; others = None }

abbrev pub asked : Asked
asked = of_task task

-- with wake-ups less than 50 after a job's begin going on with it
abbrev pub with_apart : Asked
with_apart = of_task (record task { apart = 50 })

-- with a job due no later than 200 behind the one before it
abbrev pub with_period : Asked
with_period = of_task (record task { period = 200 })

abbrev pub at_run : Asked
at_run = record asked { begin_at_run = true }

-- each processor has documents of its own, and those of this one are looked at
abbrev pub of_each : ℕ → Asked
of_each processor = record asked { processor = processor; everywhere = true }

-- and of a job that ran on several processors they have what it ran there
abbrev pub in_shares : ℕ → Asked
in_shares processor = record (of_each processor) { moved_parts = true }

-- and it is told who else had this processor while a job waited
abbrev pub with_others : ℕ → Asked
with_others processor = record asked { others = Some processor }

abbrev pub up_to : ℕ → Asked
up_to time = record asked { to = Some time }

abbrev pub from : ℕ → Asked
from time = record asked { from = Some time }

-- # Jobs

-- in which it ran, at 5 kHz
abbrev pub stretch : ℕ → ℕ → ℕ → Stretch
stretch processor from to = record { processor = processor; from = from; to = to; khz = Some 5 }

abbrev pub job : ℕ → End → List Stretch → Job
job begin end stretches =
    record { begin = begin; begin_known = true; due_from = begin; end = end; stretches = stretches; wake_ups = 0; switch_missing = false; slept = None; exited = false; shared = false }

-- what the job ran on one of its processors
abbrev pub share : ℕ → End → List Stretch → Job
share begin end stretches = record (job begin end stretches) { shared = true }

-- of a job that began by this time
abbrev pub begun_by : ℕ → End → List Stretch → Job
begun_by begin end stretches = record (job begin end stretches) { begin_known = false }
