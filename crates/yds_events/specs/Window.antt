-- Jobs' windows as ranges of the jobs' stretches, which are numbered in order of time from 0.
use Rattle.std.specs.Prelude.{◌≡◌, ℕ, ◌<◌, ◌≤◌, ◌↔◌, List, length, slice_index}
use Rattle.std.specs.List.{slice_index_or}
use Rattle.yds_model.specs.Job.{Job, job_at}
use Rattle.yds_model.specs.Event.{stretches, stretch_at}
use Rattle.yds_events.specs.declared.window.Window.{Window}
use Rattle.yds_events.specs.Stretch.{length_of}

-- how long the jobs' stretch with this number is
abbrev pub length_at : List Job → ℕ → ℕ
length_at jobs k = length_of (stretch_at jobs k)

-- the stretch lies in the job's window
pub record IsInWindow (jobs : List Job) (job k : ℕ) : Type 0 where
  pub released : (job_at jobs job).release ≤ (stretch_at jobs k).from
  pub due : (stretch_at jobs k).to ≤ (job_at jobs job).deadline

abbrev pub no_window : Window
no_window = record { first = 0; end = 0 }

abbrev pub window_at : List Window → ℕ → Window
window_at windows j = slice_index_or windows j no_window

-- the stretch is one of the range
pub record IsIn (windows : List Window) (job k : ℕ) : Type 0 where
  pub from : (window_at windows job).first ≤ k
  pub upto : k < (window_at windows job).end

-- The ranges of these jobs: none is empty, a later deadline has no earlier end, and what is in a range is what lies in the
-- job's window.
pub record AreWindows (jobs : List Job) (windows : List Window) : Type 0 where
  pub all : length windows ≡ length jobs
  pub some : (j : ℕ) → j < length jobs → (window_at windows j).first < (window_at windows j).end
  pub inside : (j : ℕ) → j < length jobs → (window_at windows j).end ≤ length (stretches jobs)
  pub ends : (i j : ℕ) → i < length jobs → j < length jobs → (job_at jobs i).deadline ≤ (job_at jobs j).deadline →
      (window_at windows i).end ≤ (window_at windows j).end
  pub are : (j k : ℕ) → j < length jobs → k < length (stretches jobs) → (IsIn windows j k ↔ IsInWindow jobs j k)

-- a number's place among rising ones: those before it are less, those from it on are not
pub record IsPlace (numbers : List ℕ) (number place : ℕ) : Type 0 where
  pub within : place ≤ length numbers
  pub before : (i : ℕ) → i < place → slice_index numbers i < number
  pub from : (i : ℕ) → place ≤ i → i < length numbers → number ≤ slice_index numbers i
