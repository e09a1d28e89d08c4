-- Jobs with their places among the times of a chain, and marks of jobs.
use Rattle.std.specs.Prelude.{◌≡◌, ℕ, ◌+◌, ◌*◌, ◌<◌, ◌≤◌, Bool, false, if◌then◌else◌, List, length, map, slice_index, sum_by}
use Rattle.std.specs.List.{All, Any, filter, slice_index_or}
use Rattle.std.specs.List.Sorted.{IsPermutation}
use Rattle.base.specs.declared.limits.TheConstants.{MAX_JOBS, MAX_TIME, MAX_TOP}
use Rattle.yds_model.specs.Job.{Job, IsJob, job_at}
use Rattle.yds_model.specs.Policy.{numbers_of}
use Rattle.yds_admit.specs.declared.board.Board.{Board}
use Rattle.yds_admit.specs.declared.board.Spot.{Spot}
use Rattle.yds_admit.specs.Chain.{AreTimes, IsEnd}

-- the place of the last time that isn't after a job's release, and the first of its deadline
pub record IsSpot (jobs : List Job) (times : List ℕ) (spot : Spot) : Type 0 where
  pub known : spot.number < length jobs
  pub in_range : spot.release ≤ MAX_TIME
  pub release : spot.release ≡ (job_at jobs spot.number).release
  pub work : spot.work ≡ (job_at jobs spot.number).work
  pub in_order : spot.begin < spot.end
  pub within : spot.end < length times
  pub deadline : slice_index times spot.end ≡ (job_at jobs spot.number).deadline
  pub earlier : (q : ℕ) → q < spot.end → slice_index times q < slice_index times spot.end
  pub until : slice_index times spot.begin ≤ spot.release
  pub after : (q : ℕ) → spot.begin < q → q < length times → spot.release < slice_index times q

-- the first place of each job's deadline among the times
pub record AreEnds (jobs : List Job) (times ends : List ℕ) : Type 0 where
  pub as_long : length ends ≡ length jobs
  pub each : (k : ℕ) → k < length jobs → IsEnd times (job_at jobs k).deadline (slice_index ends k)

-- a spot for each job, in some order
pub record AreSpots (jobs : List Job) (times : List ℕ) (spots : List Spot) : Type 0 where
  pub same : IsPermutation (numbers_of jobs) (map (λ spot. spot.number) spots)
  pub each : All (IsSpot jobs times) spots

-- no job is released after one before it
abbrev pub IsFallingSpots : List Spot → Type 0
IsFallingSpots spots = (i j : ℕ) (d : Spot) → i ≤ j → j < length spots →
    (slice_index_or spots j d).release ≤ (slice_index_or spots i d).release

-- what the top speed does between each time and the next
pub record AreGaps (top : ℕ) (times gaps : List ℕ) : Type 0 where
  pub as_long : length gaps + 1 ≡ length times
  pub each : (q : ℕ) → q + 1 < length times →
      slice_index gaps q + top * slice_index times q ≡ top * slice_index times (q + 1)

-- few jobs, a top speed in range, and what belongs to them
pub record IsBoard (board : Board) : Type 0 where
  pub few : length board.rows.now ≤ MAX_JOBS
  pub some_top : 1 ≤ board.top
  pub top_in_range : board.top ≤ MAX_TOP
  pub are : All IsJob board.rows.now
  pub are_times : AreTimes 0 board.rows.now board.times.items
  pub are_gaps : AreGaps board.top board.times.items board.gaps.items
  pub are_ends : AreEnds board.rows.now board.times.items board.ends.items
  pub are_spots : AreSpots board.rows.now board.times.items board.spots.items
  pub falling : IsFallingSpots board.spots.items

-- what f is of a job, if it is marked
abbrev pub if_marked : List Bool → (ℕ → ℕ) → ℕ → ℕ
if_marked marks f number = if slice_index_or marks number false then f number else 0

-- these jobs are the marked ones of all: they have the same sums
pub record AreMarked (all : List Job) (marks : List Bool) (jobs : List Job) : Type 0 where
  pub sums : (f : Job → ℕ) → sum_by (if_marked marks (λ number. f (job_at all number))) (numbers_of all) ≡ sum_by f jobs
  pub known : All (λ job. Any (λ one. one ≡ job) all) jobs

-- the marked jobs, by falling releases
abbrev pub falling_jobs : List Job → List Bool → List Spot → List Job
falling_jobs all marks spots = map (λ spot. job_at all spot.number) (filter (λ spot. slice_index_or marks spot.number false) spots)

-- none is marked from this number on
abbrev pub NoneFrom : List Bool → ℕ → Type 0
NoneFrom marks first = (number : ℕ) → first ≤ number → slice_index_or marks number false ≡ false

-- these jobs are the marked ones, of which none comes after the first i
pub record IsMarked (rows : List Job) (i : ℕ) (marks : List Bool) (jobs : List Job) : Type 0 where
  pub as_long : length marks ≡ length rows
  pub marked : AreMarked rows marks jobs
  pub none : NoneFrom marks i
