-- What the small traces of the examples are made of. A unit of time is 10 nanoseconds.
use Rattle.yds_model.proofs.Common.{ℕ, List, codes, true, false, None}
use Rattle.yds_kernel.specs.Event.{Thread, Happening, Said, Stamped}
use Rattle.yds_trace.specs.Asked.{Named, Task, Same, Asked}

abbrev pub thread : List ℕ → ℕ → Thread
thread name pid = record { name = name; pid = pid }

abbrev pub t : Thread
t = thread (codes "t") 7

abbrev pub idle : Thread
idle = thread (codes "swapper") 0

-- a line of this processor
abbrev pub line_of : ℕ → ℕ → Happening → Said
line_of processor time happening = Stamped (record { processor = processor; time = time; happening = happening })

-- each of its jobs is due so long after its begin
abbrev pub task_due : ℕ → List ℕ → Task
task_due deadline name = record { label = name; thread = Named name; deadline = deadline; apart = 0; period = 0 }

-- these tasks, on processor 0
abbrev pub asked_of : List Task → Asked
asked_of tasks = record {
  tasks = tasks;
  processor = 0;
  unit = 10;
  khz = 1;
  start = Same 5;
  from = None;
  to = None;
  begin_at_run = false;
  cut_losses = true;
  in_parts = true;
  everywhere = false;
  moved_parts = false;
  others = None;
}
