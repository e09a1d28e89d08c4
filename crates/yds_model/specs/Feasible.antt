-- A schedule is feasible: one job runs at a time, each within its window, and each gets all its work.
use Rattle.std.specs.Prelude.{◌≡◌, ℕ, ◌*◌, ◌<◌, ◌≤◌, List, [], ◌∷◌, length}
use Rattle.std.specs.List.{All}
use Rattle.yds_model.specs.Job.{Job, job_at}
use Rattle.yds_model.specs.Slot.{WrittenSlot, WholeSlot, AtEachScale, work_given}

-- the slots run one after another, from this time on, and each takes time
abbrev pub RunFrom : ℕ → List WholeSlot → Type 0
RunFrom start [] = Unit {0}
RunFrom start (slot ∷ slots) = (start ≤ slot.from) × (slot.from < slot.to) × RunFrom slot.to slots

-- the slot is one of a job, within the job's window
pub record IsInWindow (jobs : List Job) (scale : ℕ) (slot : WholeSlot) : Type 0 where
  pub known : slot.job < length jobs
  pub released : (job_at jobs slot.job).release * scale ≤ slot.from
  pub due : slot.to ≤ (job_at jobs slot.job).deadline * scale

-- a schedule at a scale is feasible for these jobs
pub record IsFeasibleAt (jobs : List Job) (scale : ℕ) (slots : List WholeSlot) : Type 0 where
  pub one_at_a_time : RunFrom 0 slots
  pub in_windows : All (IsInWindow jobs scale) slots
  pub served : (number : ℕ) → number < length jobs → work_given slots number ≡ (job_at jobs number).work * scale

-- a written schedule is feasible where it is so at each of its scales
abbrev pub IsFeasible : List Job → List WrittenSlot → Type 0
IsFeasible jobs slots = AtEachScale slots (IsFeasibleAt jobs)
