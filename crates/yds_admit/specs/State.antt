-- What is decided of jobs.
use Rattle.std.specs.Prelude.{◌≡◌, ℕ, ◌<◌, ◌≤◌, ◌++◌, List, length, drop}
use Rattle.std.specs.List.{All}
use Rattle.std.specs.List.Sorted.{IsPermutation}
use Rattle.yds_model.specs.Job.{Job, IsJob, job_at}
use Rattle.yds_model.specs.Policy.{numbers_of}
use Rattle.yds_model.specs.Admission.{Refusal, AdmitsAfter, IsAdmission, jobs_with}
use Rattle.yds_laws.specs.AdmissionLaws.{HasRoom}
use Rattle.yds_admit.specs.Board.{IsBoard, IsMarked}
use Rattle.yds_admit.specs.declared.board.Board.{Board}
use Rattle.yds_admit.specs.declared.state.State.{State}

-- the numbers of the admitted jobs, these jobs, which leave no interval overfull, and a refusal for each other job
pub record IsDecision (rows : List Job) (top : ℕ) (taken : List ℕ) (jobs : List Job) (refused : List Refusal) : Type 0 where
  pub admission : IsAdmission rows top taken refused
  pub jobs_are : jobs ≡ jobs_with rows taken
  pub room : HasRoom top jobs
  pub few : length jobs ≤ length rows
  pub taken_known : All (λ number. number < length rows) taken
  pub refused_known : All (λ (refusal : Refusal). refusal.job < length rows) refused

-- The first jobs have been decided: with whatever the definition says of the others, it is an admission.
pub record Decided (rows : List Job) (top i : ℕ) (taken : List ℕ) (jobs : List Job) (refused : List Refusal) : Type 0 where
  pub same : jobs ≡ jobs_with rows taken
  pub few : length jobs ≤ i
  pub are : All IsJob jobs
  pub room : HasRoom top jobs
  pub taken_known : All (λ number. number < i) taken
  pub refused_known : All (λ (refusal : Refusal). refusal.job < i) refused
  pub goes_on : (later : List ℕ) (others : List Refusal) → AdmitsAfter rows top taken (drop i (numbers_of rows)) later others →
      IsAdmission rows top (taken ++ later) (refused ++ others)

-- what the program keeps of the first jobs of a board
pub record IsState (board : Board) (state : State) : Type 0 where
  pub on : IsBoard board
  pub within : state.next ≤ length board.rows.now
  pub decided : Decided board.rows.now board.top state.next state.taken.items state.jobs.items state.refused.items
  pub marked : IsMarked board.rows.now state.next state.marks.items state.jobs.items
  pub same : IsPermutation state.jobs.items state.nearly_sorted.items

-- the next job
abbrev pub next_job : Board → State → Job
next_job board state = job_at board.rows.now state.next
