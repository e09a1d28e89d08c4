-- Jobs in two parts, cut at a time at which no window is open, and a schedule of each part.
use Rattle.std.specs.Prelude.{ℕ, ◌+◌, ◌-◌, ◌<◌, ◌≤◌, List, ◌++◌, length, map}
use Rattle.std.specs.List.{All}
use Rattle.yds_model.specs.Job.{Job}
use Rattle.yds_model.specs.Slot.{WrittenSlot, WholeSlot}
use Rattle.yds_model.specs.Energy.{last_deadline, first_release}

-- at this time the windows of the first jobs are over, and those of the second haven't begun
pub record ArePartedAt (time : ℕ) (first second : List Job) : Type 0 where
  pub before : All (λ job. job.deadline ≤ time) first
  pub after : All (λ job. time ≤ job.release) second

-- no job's window is empty
abbrev pub WindowsAreForward : List Job → Type 0
WindowsAreForward jobs = All (λ job. job.release < job.deadline) jobs

-- the slot of the job that comes so many places later
abbrev pub moved : ℕ → WholeSlot → WholeSlot
moved places slot = record { job = places + slot.job; from = slot.from; to = slot.to; work = slot.work }

abbrev pub moved_written : ℕ → WrittenSlot → WrittenSlot
moved_written places slot = record { job = places + slot.job; from = slot.from; to = slot.to; work = slot.work }

-- slots of the first jobs and after them slots of the second, whose jobs are told by their places among the second ones
abbrev pub slots_in_turn : List Job → List WrittenSlot → List WrittenSlot → List WrittenSlot
slots_in_turn first slots others = slots ++ map (moved_written (length first)) others

-- the same at a scale
abbrev pub together_at : List Job → List WholeSlot → List WholeSlot → List WholeSlot
together_at first slots others = slots ++ map (moved (length first)) others

-- each slot is one of these jobs
abbrev pub AreOf : List Job → List WrittenSlot → Type 0
AreOf jobs slots = All (λ slot. slot.job + 1 ≤ length jobs) slots

-- the time from the last deadline of the first jobs to the first release of the second
abbrev pub gap_between : List Job → List Job → ℕ
gap_between first second = first_release second - last_deadline first
