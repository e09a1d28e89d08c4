-- The definitions of a timeline, tried on the three nested jobs: a from 0 to 12, b from 2 to 10, c from 4 to 6. Their event points cut time
-- into five stretches.
use Rattle.yds_model.proofs.Common.{◌≡◌, ℕ, suc, ◌<◌, List, [], ◌∷◌, length, refl, ◌∙◌, slice_index, ◌↔◌, get_or_default, Job, job_at, stretches}
use Rattle.yds_events.specs.declared.window.Window.{Window}
use Rattle.yds_events.specs.ServingOrder.{Precedes, IsOrder}
use Rattle.yds_events.specs.Window.{window_at, IsIn, IsInWindow, AreWindows}
use Rattle.yds_examples.proofs.Tests.{Test, tests, proved, refuted, test_le, test_each, test_grid, test_ordered, test_contains, test_like, test_implied, test_both}
use Rattle.yds_examples.proofs.ThreeJobs.{jobs, piece}

-- the stretches
five : stretches jobs ≡ piece 0 2 ∷ piece 2 4 ∷ piece 4 6 ∷ piece 6 10 ∷ piece 10 12 ∷ []
five = refl

-- # The order of deadlines

-- a job that precedes another
abbrev pub precedes : (rows : List Job) (one other : ℕ) → Test (Precedes rows one other)
precedes rows one other = hlevel tests

-- a job's place in an order
abbrev pub placed : (order : List ℕ) (job : ℕ) → Test ((place : ℕ) × (place < length order) × (slice_index order place ≡ job))
placed order job =
    test_like (λ here. (here.0, here.1, get_or_default order here.0 0 job here.1 ∙ here.2))
    (λ found. (found.0, found.1, get_or_default order found.0 job 0 found.1 ∙ found.2)) (test_contains order job)

-- an order
abbrev pub is_order : (rows : List Job) (order : List ℕ) → Test (IsOrder rows order)
is_order rows order = hlevel (
  tests,
  test_each (λ place. test_le (suc (slice_index order place)) (length rows)),
  test_ordered (λ one other. precedes rows (slice_index order one) (slice_index order other)),
  test_each (placed order),
)

-- c is due first, then b, then a
due : IsOrder jobs (2 ∷ 1 ∷ 0 ∷ [])
due = proved (is_order jobs (2 ∷ 1 ∷ 0 ∷ [])) refl

-- the order of releases isn't theirs,
not_by_release : IsOrder jobs (0 ∷ 1 ∷ 2 ∷ []) → ⊥
not_by_release = refuted (is_order jobs (0 ∷ 1 ∷ 2 ∷ [])) refl

-- a list without a job isn't,
not_without_one : IsOrder jobs (2 ∷ 1 ∷ []) → ⊥
not_without_one = refuted (is_order jobs (2 ∷ 1 ∷ [])) refl

-- nor one that has a job twice,
not_twice : IsOrder jobs (2 ∷ 1 ∷ 1 ∷ 0 ∷ []) → ⊥
not_twice = refuted (is_order jobs (2 ∷ 1 ∷ 1 ∷ 0 ∷ [])) refl

-- nor one with a number that is no job's
not_of_four : IsOrder jobs (2 ∷ 1 ∷ 0 ∷ 3 ∷ []) → ⊥
not_of_four = refuted (is_order jobs (2 ∷ 1 ∷ 0 ∷ 3 ∷ [])) refl

-- jobs that are due together stand by their numbers
abbrev pub pair : List Job
pair = record { release = 3; deadline = 5; work = 1 } ∷ record { release = 0; deadline = 5; work = 2 } ∷ []

by_number : IsOrder pair (0 ∷ 1 ∷ [])
by_number = proved (is_order pair (0 ∷ 1 ∷ [])) refl

not_against_numbers : IsOrder pair (1 ∷ 0 ∷ []) → ⊥
not_against_numbers = refuted (is_order pair (1 ∷ 0 ∷ [])) refl

-- # Windows as ranges of the stretches

-- from one place up to another
abbrev pub range : ℕ → ℕ → Window
range first end = record { first = first; end = end }

-- a stretch that is in the job's range is one that lies in its window
abbrev pub in_window : (rows : List Job) (windows : List Window) (job stretch : ℕ) → Test (IsIn windows job stretch ↔ IsInWindow rows job stretch)
in_window rows windows job stretch =
    let in_range : Test (IsIn windows job stretch) = hlevel tests in
    let inside : Test (IsInWindow rows job stretch) = hlevel tests in
    test_both (test_implied in_range inside) (test_implied inside in_range)

-- ranges
abbrev pub are_windows : (rows : List Job) (windows : List Window) → Test (AreWindows rows windows)
are_windows rows windows = hlevel (
  tests,
  test_each (λ job. test_le (suc (window_at windows job).first) (window_at windows job).end),
  test_each (λ job. test_le (window_at windows job).end (length (stretches rows))),
  test_grid (λ one other. test_implied (test_le (job_at rows one).deadline (job_at rows other).deadline) (test_le (window_at windows one).end (window_at windows other).end)),
  test_grid (in_window rows windows),
)

-- a's window has all five stretches, b's the three in the middle, and c's one
ranges : AreWindows jobs (range 0 5 ∷ range 1 4 ∷ range 2 3 ∷ [])
ranges = proved (are_windows jobs (range 0 5 ∷ range 1 4 ∷ range 2 3 ∷ [])) refl

-- b's isn't a stretch longer,
not_longer : AreWindows jobs (range 0 5 ∷ range 1 5 ∷ range 2 3 ∷ []) → ⊥
not_longer = refuted (are_windows jobs (range 0 5 ∷ range 1 5 ∷ range 2 3 ∷ [])) refl

-- nor is c's empty,
not_empty : AreWindows jobs (range 0 5 ∷ range 1 4 ∷ range 2 2 ∷ []) → ⊥
not_empty = refuted (are_windows jobs (range 0 5 ∷ range 1 4 ∷ range 2 2 ∷ [])) refl

-- and no job is without one
not_too_few : AreWindows jobs (range 0 5 ∷ range 1 4 ∷ []) → ⊥
not_too_few = refuted (are_windows jobs (range 0 5 ∷ range 1 4 ∷ [])) refl
