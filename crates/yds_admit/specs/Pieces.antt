-- Jobs cut into pieces, each of which takes room in one gap between rising times.
use Rattle.std.specs.Prelude.{◌≡◌, ℕ, ◌+◌, ◌-◌, ◌*◌, ◌<◌, ◌≤◌, ◌++◌, ◌∷◌, [], nat_le, if◌then◌else◌, List, length, insert, take, slice_index, sum_by}
use Rattle.std.specs.List.{All, Any, Contains}
use Rattle.base.specs.declared.limits.TheConstants.{MAX_JOBS, MAX_WORK}
use Rattle.yds_model.specs.Job.{Job, job_at}
use Rattle.base.specs.Numbers.{sum_below}
use Rattle.yds_admit.specs.declared.pieces.Pieces.{Pieces}
use Rattle.yds_model.specs.Confined.{work_within}
use Rattle.yds_admit.specs.Chain.{IsFalling, IsChain, due_work}
use Rattle.yds_admit.specs.Idle.{Fits, HasIdle, idle_before}

-- each job's deadline is one of the times
abbrev pub AreDue : List ℕ → List Job → Type 0
AreDue times jobs = All (λ job. Contains times job.deadline) jobs

-- the units of the first n pieces that take room before a place
abbrev pub went : ℕ → List Job → List ℕ → ℕ → ℕ
went n jobs places q = sum_below n (λ k. if nat_le (slice_index places k) q then (job_at jobs k).work else 0)

-- The units of the first n pieces before a place are the greatest work, due at one of m later times, beyond what the top speed does in between.
pub record IsGreatest (top : ℕ) (times : List ℕ) (m n : ℕ) (jobs : List Job) (places : List ℕ) (q : ℕ) : Type 0 where
  pub all : (p : ℕ) → q ≤ p → p ≤ m →
      due_work (take n jobs) (slice_index times p) + top * slice_index times q ≤ went n jobs places q + top * slice_index times p
  pub at : ℕ
  pub later : q ≤ at
  pub within : at ≤ m
  pub exact : due_work (take n jobs) (slice_index times at) + top * slice_index times q ≡ went n jobs places q + top * slice_index times at

-- so many of the first ones are released at a time or later, and no others
pub record IsCount (jobs : List Job) (n from : ℕ) : Type 0 where
  pub within : n ≤ length jobs
  pub early : (i : ℕ) → i < n → from ≤ (job_at jobs i).release
  pub late : (i : ℕ) → n ≤ i → i < length jobs → (job_at jobs i).release < from

-- pieces, and what they left of the gaps
pub record IsCutting (top : ℕ) (times : List ℕ) (jobs : List Job) (places gaps : List ℕ) : Type 0 where
  pub as_long : length places ≡ length jobs
  pub chain : IsChain (length gaps) (λ q. top * slice_index times q) (λ q. due_work jobs (slice_index times q))
      (λ q. went (length jobs) jobs places q) gaps 0 0
  pub greatest : (n : ℕ) → n ≤ length jobs → (q : ℕ) → q ≤ length gaps → IsGreatest top times (length gaps) n jobs places q

-- a job's pieces come after the others: they have its window, and its work together
pub record IsCutInto (job : Job) (old new : List Job) : Type 0 where
  pub more : List Job
  pub is : new ≡ old ++ more
  pub some : 1 ≤ length more
  pub windows : All (λ piece. (piece.release ≡ job.release) × (piece.deadline ≡ job.deadline)) more
  pub work : sum_by (λ piece. piece.work) more ≡ job.work

-- the pieces of all these jobs
pub record AreCut (all jobs : List Job) : Type 0 where
  pub falling : IsFalling jobs
  pub total : sum_by (λ job. job.work) jobs ≡ sum_by (λ job. job.work) all
  pub same : (from to : ℕ) → work_within jobs from to ≡ work_within all from to
  pub kept : (from : ℕ) → Any (λ job. job.release ≡ from) all → Any (λ job. job.release ≡ from) jobs
  pub known : (from : ℕ) → Any (λ job. job.release ≡ from) jobs → Any (λ job. job.release ≡ from) all

-- Pieces of jobs by falling releases, and what is idle beside them. The pieces that are released at a time or later have no fewer units before a
-- place than the jobs released then want by a later place, beyond what the top speed does in between, less what is idle there.
pub record AreBounds (top : ℕ) (times : List ℕ) (all jobs : List Job) (places idle : List ℕ) : Type 0 where
  pub as_long : length places ≡ length jobs
  pub falling : IsFalling jobs
  pub few : sum_by (λ job. job.work) jobs ≤ length all * MAX_WORK
  pub kept : (from : ℕ) → Any (λ job. job.release ≡ from) all → Any (λ job. job.release ≡ from) jobs
  pub known : (from : ℕ) → Any (λ job. job.release ≡ from) jobs → Any (λ job. job.release ≡ from) all
  pub most : (from n a b : ℕ) → IsCount jobs n from → a ≤ b → b < length times →
      work_within all from (slice_index times b) + top * slice_index times a + idle_before idle b
      ≤ went n jobs places a + top * slice_index times b + idle_before idle a

-- They have no more: all that is not idle before a place is theirs, and the jobs want as much by some later place.
pub record AreExact (top : ℕ) (times : List ℕ) (all jobs : List Job) (places idle : List ℕ) : Type 0 where
  pub rest : (q : ℕ) → q < length times → idle_before idle q + went (length jobs) jobs places q ≡ top * slice_index times q
  pub tight : (n from q : ℕ) → n ≤ length jobs → ((i : ℕ) → i < n → from ≤ (job_at jobs i).release) → q < length times →
      (p : ℕ) × (q ≤ p) × (p < length times)
      × (went n jobs places q + top * slice_index times p ≤ work_within all from (slice_index times p) + top * slice_index times q)

-- the units of all pieces before each of the times
pub record AreUsed (times : List ℕ) (jobs : List Job) (places used : List ℕ) : Type 0 where
  pub used_as_long : length used ≡ length times
  pub each : (q : ℕ) → q < length times → slice_index used q ≡ went (length jobs) jobs places q

-- so many units were added at a place and each later one
pub record AreMore (old new : List ℕ) (place units : ℕ) : Type 0 where
  pub as_long : length new ≡ length old
  pub each : (q : ℕ) → q < length old → slice_index new q ≡ slice_index old q + (if nat_le place q then units else 0)

-- pieces of few jobs, with their deadlines among the times, and what they leave idle
pub record AreBoundsOf (top : ℕ) (times : List ℕ) (all : List Job) (pieces : Pieces) (idle : List ℕ) : Type 0 where
  pub bounds : AreBounds top times all pieces.jobs pieces.places.items idle
  pub few : length all ≤ MAX_JOBS
  pub has_idle : HasIdle top times all idle
  pub used : AreUsed times pieces.jobs pieces.places.items pieces.used.items

-- one job more stands among pieces, as one with this place
pub record IsAdded (jobs : List Job) (places : List ℕ) (row : Job) (place : ℕ) (new_jobs : List Job) (new_places : List ℕ) : Type 0 where
  pub number : ℕ
  pub count : IsCount jobs number row.release
  pub jobs_are : new_jobs ≡ insert jobs number row
  pub places_are : new_places ≡ insert places number place

-- no interval from a release before this one is overfull with one job more
pub record IsLeastBound (top : ℕ) (times : List ℕ) (all : List Job) (row : Job) (end : ℕ) (idle : List ℕ) (from : ℕ) : Type 0 where
  pub until : from ≤ row.release
  pub is_release : Any (λ job. job.release ≡ from) (all ++ row ∷ [])
  pub earlier : (other : ℕ) → other < from → Any (λ job. job.release ≡ other) (all ++ row ∷ []) → Fits top times all row end idle other

-- with one job more some interval from this time on has more work than the top speed does there
abbrev pub HasTooMuch : ℕ → List Job → Job → ℕ → Type 0
HasTooMuch top all row from = (to : ℕ) × (from < to) × (top * (to - from) < work_within (all ++ row ∷ []) from to)
