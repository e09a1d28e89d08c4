-- The groups that aren't finished: parts of the jobs and of the stretches, the fastest one first.
use Rattle.std.specs.Prelude.{◌≡◌, ℕ, ◌*◌, ◌<◌, ◌≤◌, ◌⊎◌, List, [], ◌∷◌, length, sum_by}
use Rattle.std.specs.List.{All, AllPairs}
use Rattle.yds_model.specs.Job.{Job, job_at}
use Rattle.yds_model.specs.Event.{stretches}
use Rattle.yds_events.specs.declared.window.Window.{Window}
use Rattle.yds_events.specs.Window.{window_at, length_at, IsIn, IsPlace}
use Rattle.yds_search.specs.declared.found.TheConstants.{NO_GROUP}
use Rattle.yds_search.specs.declared.own.OwnJob.{OwnJob}
use Rattle.yds_search.specs.declared.own.OwnStretch.{OwnStretch}
use Rattle.yds_search.specs.Found.{Found, group_of}
use Rattle.yds_events.specs.ServingOrder.{Precedes}
use Rattle.yds_search.specs.Own.{Part, stretch_numbers}

-- one of the list is such
abbrev pub HasOne : {X : Type 0} → (X → Type 0) → List X → Type 0
HasOne P [] = ⊥
HasOne P (x ∷ xs) = P x ⊎ HasOne P xs

-- the job, the stretch with this number is one of the part
abbrev pub HasJob : Part → ℕ → Type 0
HasJob part j = HasOne (λ own. own.job ≡ j) part.jobs

abbrev pub HasStretch : Part → ℕ → Type 0
HasStretch part k = HasOne (λ own. own.stretch ≡ k) part.stretches

-- a job with work, in no finished group, with its window as places among the numbers of the part's stretches
pub record IsOwnJob (jobs : List Job) (windows : List Window) (groups numbers : List ℕ) (own : OwnJob) : Type 0 where
  pub known : own.job < length jobs
  pub some : 1 ≤ own.work
  pub work_is : own.work ≡ (job_at jobs own.job).work
  pub free : group_of groups own.job ≡ NO_GROUP
  pub first : IsPlace numbers (window_at windows own.job).first own.first
  pub end : IsPlace numbers (window_at windows own.job).end own.end
  pub meets : own.first < own.end

-- a stretch in no finished group, in which one of the part's jobs may run
pub record IsOwnStretch (jobs : List Job) (windows : List Window) (groups : List ℕ) (own_jobs : List OwnJob) (own : OwnStretch) : Type 0 where
  pub known : own.stretch < length (stretches jobs)
  pub length_is : own.length ≡ length_at jobs own.stretch
  pub free : group_of groups own.stretch ≡ NO_GROUP
  pub covered : HasOne (λ one. IsIn windows one.job own.stretch) own_jobs

-- a part: jobs in order of deadline and number, stretches in order of time
pub record IsWaiting (jobs : List Job) (windows : List Window) (found : Found) (part : Part) : Type 0 where
  pub own_jobs : All (IsOwnJob jobs windows found.group_of_job (stretch_numbers part.stretches)) part.jobs
  pub own_stretches : All (IsOwnStretch jobs windows found.group_of_stretch part.jobs) part.stretches
  pub precede : AllPairs (λ one next. Precedes jobs one.job next.job) part.jobs
  pub rise : AllPairs (λ one next. one.stretch < next.stretch) part.stretches
  pub some : 1 ≤ length part.stretches

-- two parts have nothing in common, and no job of the faster one may run in a stretch of the slower one
pub record IsBefore (windows : List Window) (faster slower : Part) : Type 0 where
  pub jobs : (j : ℕ) → HasJob faster j → HasJob slower j → ⊥
  pub stretches : (k : ℕ) → HasStretch faster k → HasStretch slower k → ⊥
  pub beyond : (j k : ℕ) → HasJob faster j → HasStretch slower k → IsIn windows j k → ⊥

-- A part is not slower than p / q: units of its jobs fill its stretches at that speed. So many units of a job in a stretch are told by `units`.
pub record IsFast (part : Part) (p q : ℕ) (units : ℕ → ℕ → ℕ) : Type 0 where
  pub full : All (λ own. p * own.length ≤ sum_by (λ one. units one.job own.stretch) part.jobs) part.stretches
  pub most : All (λ own. sum_by (λ one. units own.job one.stretch) part.stretches ≤ q * own.work) part.jobs

-- A part is not faster than p / q: units in its stretches serve its jobs at that speed.
pub record IsSlow (part : Part) (p q : ℕ) (units : ℕ → ℕ → ℕ) : Type 0 where
  pub served : All (λ own. q * own.work ≤ sum_by (λ one. units own.job one.stretch) part.stretches) part.jobs
  pub room : All (λ own. sum_by (λ one. units one.job own.stretch) part.jobs ≤ p * own.length) part.stretches

-- one part is not slower than the next, because of a speed between them
pub record IsBoundary (windows : List Window) (faster slower : Part) : Type 0 where
  pub p : ℕ
  pub q : ℕ
  pub units : ℕ → ℕ → ℕ
  pub some : 1 ≤ q
  pub inside : (j k : ℕ) → 1 ≤ units j k → IsIn windows j k
  pub fast : IsFast faster p q units
  pub slow : IsSlow slower p q units

abbrev pub IsFollowed : List Window → Part → List Part → Type 0
IsFollowed windows part [] = Unit {0}
IsFollowed windows part (next ∷ parts) = IsBoundary windows part next

-- all parts wait, each before the slower ones
abbrev pub AreWaiting : List Job → List Window → Found → List Part → Type 0
AreWaiting jobs windows found [] = Unit {0}
AreWaiting jobs windows found (part ∷ parts) =
    IsWaiting jobs windows found part × All (IsBefore windows part) parts × IsFollowed windows part parts × AreWaiting jobs windows found parts
