-- The laws of admission: which jobs a processor of a top speed can serve, and how fast admitted jobs run.
use Rattle.std.specs.Prelude.{◌≡◌, ℕ, ◌-◌, ◌*◌, ◌<◌, ◌≤◌, ◌⊎◌, ◌↔◌, List}
use Rattle.std.specs.List.{All, Contains}
use Rattle.base.specs.Numbers.{AreDifferent}
use Rattle.yds_model.specs.Job.{Job, IsJob, job_at, work_of}
use Rattle.yds_model.specs.Policy.{numbers_of}
use Rattle.yds_model.specs.Slot.{WrittenSlot, AtEachScale}
use Rattle.yds_model.specs.Admission.{IsWithinTop, CanServe, IsOverfull, IsAdmittedRun, jobs_with, Refusal, IsAdmission}

-- no interval, from a release to a deadline of the jobs, has more work confined to it than the top speed can serve there
abbrev pub HasRoom : ℕ → List Job → Type 0
HasRoom top jobs = (from to : ℕ) → IsOverfull jobs top (numbers_of jobs) from to → ⊥

-- Jobs can be served at or below a top speed exactly where no interval is overfull.
abbrev pub ServedWhereRoom : Type 0
ServedWhereRoom = (top : ℕ) (jobs : List Job) → 1 ≤ top → All IsJob jobs → (CanServe top jobs ↔ HasRoom top jobs)

-- No slot of the admitted jobs' schedule is faster than the top speed.
abbrev pub AdmittedRunsAreWithinTop : Type 0
AdmittedRunsAreWithinTop = (jobs : List Job) (top : ℕ) (slots : List WrittenSlot) → IsAdmittedRun jobs top slots →
    AtEachScale slots (λ scale whole. All (IsWithinTop top) whole)

-- These jobs force a refusal: the refused job and some of the taken ones. Their windows lie in the refusal's interval, and their work together is what
-- it tells, more than the top speed does there. So no schedule at or below the top speed serves them.
pub record IsForced (jobs : List Job) (top : ℕ) (taken : List ℕ) (refusal : Refusal) : Type 0 where
  pub numbers : List ℕ
  pub itself : Contains numbers refusal.job
  pub different : AreDifferent numbers
  pub own : All (λ number. (number ≡ refusal.job) ⊎ Contains taken number) numbers
  pub inside : All (λ number. (refusal.from ≤ (job_at jobs number).release) × ((job_at jobs number).deadline ≤ refusal.to)) numbers
  pub work : refusal.work ≡ work_of jobs numbers
  pub too_much : top * (refusal.to - refusal.from) < refusal.work
  pub unserved : CanServe top (jobs_with jobs numbers) → ⊥

-- Each refusal of an admission is forced.
abbrev pub RefusalsAreForced : Type 0
RefusalsAreForced = (jobs : List Job) (top : ℕ) (taken : List ℕ) (refused : List Refusal) → IsAdmission jobs top taken refused →
    All (IsForced jobs top taken) refused
