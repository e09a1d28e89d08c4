-- Earliest deadline first: what runs has the earliest deadline among the jobs that may run and aren't done, and of jobs with
-- the same deadline it stands first in the list.
use Rattle.std.specs.Prelude.{◌≡◌, ℕ, ◌*◌, ◌<◌, ◌≤◌, ◌⊎◌, List, [], ◌∷◌, ◌++◌, length}
use Rattle.yds_model.specs.Job.{Job, job_at}
use Rattle.yds_model.specs.Slot.{WholeSlot, work_given}

-- the first job's deadline is earlier, or they are the same and its number isn't greater
abbrev pub ComesFirst : List Job → ℕ → ℕ → Type 0
ComesFirst jobs first other =
    ((job_at jobs first).deadline < (job_at jobs other).deadline)
    ⊎ (((job_at jobs first).deadline ≡ (job_at jobs other).deadline) × (first ≤ other))

-- the job is released by this time, and the slots before haven't done all its work
pub record MayRun (jobs : List Job) (scale time : ℕ) (before : List WholeSlot) (number : ℕ) : Type 0 where
  pub released : (job_at jobs number).release * scale ≤ time
  pub pending : work_given before number < (job_at jobs number).work * scale

-- the slot's job may run at its start, and comes first among the jobs that may
pub record IsFirstDue (jobs : List Job) (scale : ℕ) (before : List WholeSlot) (slot : WholeSlot) : Type 0 where
  pub may_run : MayRun jobs scale slot.from before slot.job
  pub first : (other : ℕ) → other < length jobs → MayRun jobs scale slot.from before other → ComesFirst jobs slot.job other

abbrev pub EarliestAfter : List Job → ℕ → List WholeSlot → List WholeSlot → Type 0
EarliestAfter jobs scale before [] = Unit {0}
EarliestAfter jobs scale before (slot ∷ slots) = IsFirstDue jobs scale before slot × EarliestAfter jobs scale (before ++ slot ∷ []) slots

abbrev pub IsEarliestFirst : List Job → ℕ → List WholeSlot → Type 0
IsEarliestFirst jobs scale slots = EarliestAfter jobs scale [] slots
