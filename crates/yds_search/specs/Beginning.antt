-- What the search begins with, in parts.
use Rattle.std.specs.Prelude.{◌≡◌, ℕ, ◌+◌, ◌<◌, ◌≤◌, Bool, nat_lt, List, [], ◌∷◌, length, map, max, take, slice_index}
use Rattle.std.specs.List.{filter, range_with_len}
use Rattle.yds_model.specs.Job.{Job, job_at}
use Rattle.yds_model.specs.Piece.{Piece}
use Rattle.yds_events.specs.declared.window.Window.{Window}
use Rattle.yds_events.specs.Stretch.{nth_stretch, length_of}
use Rattle.yds_events.specs.Window.{window_at}
use Rattle.yds_search.specs.declared.own.OwnJob.{OwnJob}
use Rattle.yds_search.specs.declared.own.OwnStretch.{OwnStretch}

-- among the first n jobs, for each of m stretches the greatest end of the windows that begin with it, of jobs with work, or 0
pub record AreFarthest (jobs : List Job) (windows : List Window) (n m : ℕ) (ends : List ℕ) : Type 0 where
  pub all : length ends ≡ m
  pub most : (j : ℕ) → j < n → 1 ≤ (job_at jobs j).work → (window_at windows j).end ≤ slice_index ends (window_at windows j).first
  pub some : (k : ℕ) → 1 ≤ slice_index ends k →
      (j : ℕ) × (j < n) × (1 ≤ (job_at jobs j).work) × ((window_at windows j).first ≡ k) × ((window_at windows j).end ≡ slice_index ends k)

-- the stretch lies in one of the windows with these ends
abbrev pub IsReached : List ℕ → ℕ → Type 0
IsReached ends k = (i : ℕ) × (i ≤ k) × (k < slice_index ends i)

-- the greatest of some ends
abbrev pub greatest_end : List ℕ → ℕ
greatest_end [] = 0
greatest_end (end ∷ ends) = max end (greatest_end ends)

-- the same as a test
abbrev pub is_reached : List ℕ → ℕ → Bool
is_reached ends k = nat_lt k (greatest_end (take (k + 1) ends))

-- how many of the stretches before this number lie in such a window
abbrev pub reached_before : List ℕ → ℕ → ℕ
reached_before ends k = length (filter (is_reached ends) (range_with_len 0 k))

-- a job with its window as a range of the stretches that are counted
abbrev pub first_job : List Job → List Window → List ℕ → ℕ → OwnJob
first_job jobs windows ranks j = record {
  job = j;
  work = (job_at jobs j).work;
  first = slice_index ranks (window_at windows j).first;
  end = slice_index ranks (window_at windows j).end;
}

-- the jobs with work, in this order
abbrev pub first_jobs : List Job → List Window → List ℕ → List ℕ → List OwnJob
first_jobs jobs windows ranks order = map (first_job jobs windows ranks) (filter (λ j. nat_lt 0 (job_at jobs j).work) order)

-- the stretches of a timeline that are reached, numbered in order of time
abbrev pub first_stretch : List Piece → ℕ → OwnStretch
first_stretch timeline k = record { stretch = k; length = length_of (nth_stretch timeline k) }

abbrev pub first_stretches : List Piece → List ℕ → List OwnStretch
first_stretches timeline ends = map (first_stretch timeline) (filter (is_reached ends) (range_with_len 0 (length timeline)))
