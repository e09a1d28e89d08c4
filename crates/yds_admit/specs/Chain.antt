-- A chain of gaps between rising times: the work that the top speed does between each and the next, less what jobs released later took.
use Rattle.std.specs.Prelude.{◌≡◌, ℕ, ◌+◌, ◌-◌, ◌*◌, ◌<◌, ◌≤◌, ◌==◌, nat_le, if◌then◌else◌, List, length, slice_index, sum_by}
use Rattle.std.specs.List.{All, Any, Contains}
use Rattle.std.specs.List.Sorted.{IsNonDecreasing}
use Rattle.yds_model.specs.Job.{Job, job_at}
use Rattle.yds_model.specs.Confined.{work_within}

-- no job is released after one before it
abbrev pub IsFalling : List Job → Type 0
IsFalling jobs = (i j : ℕ) → i ≤ j → j < length jobs → (job_at jobs j).release ≤ (job_at jobs i).release

-- rising times, of which `due` is the first, with the deadlines after it
pub record AreTimes (due : ℕ) (jobs : List Job) (times : List ℕ) : Type 0 where
  pub some : 1 ≤ length times
  pub first : slice_index times 0 ≡ due
  pub rising : IsNonDecreasing times
  pub all : All (λ job. due < job.deadline → Contains times job.deadline) jobs

-- so many of the times come before this one
pub record IsPlace (times : List ℕ) (time place : ℕ) : Type 0 where
  pub before : (q : ℕ) → q < place → slice_index times q < time
  pub after : (q : ℕ) → place ≤ q → q < length times → time ≤ slice_index times q

-- the first place of one of the times
pub record IsEnd (times : List ℕ) (time place : ℕ) : Type 0 where
  pub within : place < length times
  pub there : slice_index times place ≡ time
  pub is : IsPlace times time place

-- the work of the jobs that are due by a time
abbrev pub due_work : List Job → ℕ → ℕ
due_work jobs time = sum_by (λ job. if nat_le job.deadline time then job.work else 0) jobs

-- Of m gaps: `reach q` is what the top speed does by the q-th time, `due_by q` the units that are due by it, and `before q` the units that
-- are done by it at the latest. Units that aren't done in a gap go on before it, which they do only where nothing of it is left. `carried`
-- units stand before the gap at `place`, to go on.
pub record IsChain (m : ℕ) (reach due_by before : ℕ → ℕ) (gaps : List ℕ) (place carried : ℕ) : Type 0 where
  pub as_long : length gaps ≡ m
  pub steps : (q : ℕ) → q < m →
      before q + reach (q + 1) + (if q + 1 == place then carried else 0) ≡ before (q + 1) + reach q + slice_index gaps q
  pub most : (q : ℕ) → q ≤ m → due_by q ≤ before q
  pub exact : (q : ℕ) → q < m → 1 ≤ slice_index gaps q → before q ≡ due_by q
  pub last : before m ≡ due_by m

-- units were taken from the gaps before a place, from the last one on, and so many go on before the first
pub record Takes (old : List ℕ) (place units : ℕ) (new : List ℕ) (at left : ℕ) : Type 0 where
  pub as_long : length new ≡ length old
  pub within : left ≤ units
  pub chain : (m : ℕ) (reach due_by before : ℕ → ℕ) → IsChain m reach due_by before old place units →
      (after : ℕ → ℕ) × IsChain m reach due_by after new at left
      × (after 0 + (if place == 0 then units else 0) ≡ before 0 + (if at == 0 then left else 0))

-- the top speed does all that is confined to an interval from this time on that ends at `due` or at a later deadline
abbrev pub HasRoomOver : ℕ → ℕ → List Job → ℕ → Type 0
HasRoomOver top due jobs from = (to : ℕ) → due ≤ to → (due < to → Any (λ job. job.deadline ≡ to) jobs) → work_within jobs from to ≤ top * (to - from)

-- Each place has a link to a place no later, between which and it nothing is left of the gaps.
pub record AreLinks (gaps links : List ℕ) : Type 0 where
  pub as_long : length links ≡ length gaps + 1
  pub back : (p : ℕ) → p < length links → slice_index links p ≤ p
  pub empty : (p q : ℕ) → p < length links → slice_index links p ≤ q → q < p → slice_index gaps q ≡ 0

-- nothing is left of the gaps from this place up to that one
abbrev pub AreEmpty : List ℕ → ℕ → ℕ → Type 0
AreEmpty gaps from to = (q : ℕ) → from ≤ q → q < to → slice_index gaps q ≡ 0
