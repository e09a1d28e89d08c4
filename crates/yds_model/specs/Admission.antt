-- Admission under a top speed: in the order of the list, a job is admitted where a processor that is nowhere faster can still serve
-- it beside the jobs admitted before it.
use Rattle.std.specs.Prelude.{◌≡◌, ℕ, ◌-◌, ◌*◌, ◌<◌, ◌≤◌, ◌⊎◌, List, [], ◌∷◌, ◌++◌, map, min, Bool}
use Rattle.std.specs.List.{All, Any, filter}
use Rattle.yds_model.specs.Job.{Job, job_at, work_of}
use Rattle.yds_model.specs.Confined.{window_is_within}
use Rattle.yds_model.specs.Slot.{WrittenSlot, WholeSlot, AtEachScale}
use Rattle.yds_model.specs.Feasible.{IsFeasibleAt}
use Rattle.yds_model.specs.Piece.{Piece}
use Rattle.yds_model.specs.Policy.{numbers_of, pending_units, IsRunAt, HasRunDenominators}

abbrev pub IsWithinTop : ℕ → WholeSlot → Type 0
IsWithinTop top slot = slot.work ≤ top * (slot.to - slot.from)

-- at some scale there is a feasible schedule of these jobs that is nowhere faster than the top speed
pub record CanServe (top : ℕ) (jobs : List Job) : Type 0 where
  pub scale : ℕ
  pub positive : 1 ≤ scale
  pub slots : List WholeSlot
  pub feasible : IsFeasibleAt jobs scale slots
  pub within_top : All (IsWithinTop top) slots

-- the jobs with these numbers
abbrev pub jobs_with : List Job → List ℕ → List Job
jobs_with jobs numbers = map (job_at jobs) numbers

-- the job's window lies between these times
abbrev pub lies_within : List Job → ℕ → ℕ → ℕ → Bool
lies_within jobs from to number = window_is_within from to (job_at jobs number)

-- the work of those of the jobs whose windows lie between these times
abbrev pub confined_work : List Job → List ℕ → ℕ → ℕ → ℕ
confined_work jobs numbers from to = work_of jobs (filter (lies_within jobs from to) numbers)

-- The jobs compete for an interval, from a release to a deadline of theirs, that can't hold at the top speed the work confined to it.
pub record IsOverfull (jobs : List Job) (top : ℕ) (numbers : List ℕ) (from to : ℕ) : Type 0 where
  pub forward : from < to
  pub is_release : Any (λ number. (job_at jobs number).release ≡ from) numbers
  pub is_deadline : Any (λ number. (job_at jobs number).deadline ≡ to) numbers
  pub too_much : top * (to - from) < confined_work jobs numbers from to

-- of all such intervals it begins first, and of those that begin there it ends first
pub record IsFirstOverfull (jobs : List Job) (top : ℕ) (numbers : List ℕ) (from to : ℕ) : Type 0 where
  pub overfull : IsOverfull jobs top numbers from to
  pub first : (other_from other_to : ℕ) → IsOverfull jobs top numbers other_from other_to →
      (from < other_from) ⊎ ((from ≡ other_from) × (to ≤ other_to))

-- a job that isn't admitted, and the interval that shows it, with the work confined to it
pub record Refusal : Type 0 where
  pub job : ℕ
  pub from : ℕ
  pub to : ℕ
  pub work : ℕ

pub record IsRefusal (jobs : List Job) (top : ℕ) (competing : List ℕ) (number : ℕ) (refusal : Refusal) : Type 0 where
  pub is_job : refusal.job ≡ number
  pub interval : IsFirstOverfull jobs top competing refusal.from refusal.to
  pub is_work : refusal.work ≡ confined_work jobs competing refusal.from refusal.to

-- After the admitted jobs `before` come these numbers: each is taken or refused in turn.
abbrev pub AdmitsAfter : List Job → ℕ → List ℕ → List ℕ → List ℕ → List Refusal → Type 0
AdmitsAfter jobs top before [] taken refused = (taken ≡ []) × (refused ≡ [])
AdmitsAfter jobs top before (number ∷ numbers) taken refused =
    (CanServe top (jobs_with jobs (before ++ number ∷ []))
    × (later : List ℕ) × (taken ≡ number ∷ later) × AdmitsAfter jobs top (before ++ number ∷ []) numbers later refused)
    ⊎ ((CanServe top (jobs_with jobs (before ++ number ∷ [])) → ⊥)
    × (refusal : Refusal) × (others : List Refusal) × (refused ≡ refusal ∷ others) × IsRefusal jobs top (before ++ number ∷ []) number refusal
    × AdmitsAfter jobs top before numbers taken others)

-- the numbers of the admitted jobs, and a refusal for each other job, in order
abbrev pub IsAdmission : List Job → ℕ → List ℕ → List Refusal → Type 0
IsAdmission jobs top taken refused = AdmitsAfter jobs top [] (numbers_of jobs) taken refused

-- a stretch serves what the top speed holds, but no more than what is pending; both times the scale
abbrev pub top_capacity : List Job → ℕ → ℕ → List WholeSlot → Piece → ℕ
top_capacity jobs top scale slots stretch =
    min (pending_units jobs 1 scale slots stretch) (scale * (top * (stretch.to - stretch.from)))

-- the schedule of the admitted jobs: earliest deadline first, at the top speed or with all that is pending
pub record IsAdmittedRun (jobs : List Job) (top : ℕ) (slots : List WrittenSlot) : Type 0 where
  pub run : AtEachScale slots (λ scale whole. IsRunAt jobs 1 scale (top_capacity jobs top scale whole) whole)
  pub denominators : All (HasRunDenominators jobs 1) slots
