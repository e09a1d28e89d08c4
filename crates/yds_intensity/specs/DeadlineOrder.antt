-- The numbers of rows in order of their deadlines.
use Rattle.std.specs.Prelude.{ℕ, ◌<◌, List, length, slice_index}
use Rattle.std.specs.List.Sorted.{IsPermutation}
use Rattle.yds_model.specs.Job.{Job}
use Rattle.yds_model.specs.EarliestFirst.{ComesFirst}
use Rattle.yds_model.specs.Policy.{numbers_of}

-- each row once, an earlier deadline first, and of equal deadlines the lesser number
pub record IsDeadlineOrder (jobs : List Job) (order : List ℕ) : Type 0 where
  pub once : IsPermutation (numbers_of jobs) order
  pub rising : (i j : ℕ) → i < j → j < length order → ComesFirst jobs (slice_index order i) (slice_index order j)
