-- The sums of confined work from one start on.
use Rattle.std.specs.Prelude.{◌≡◌, ℕ, ◌<◌, ◌↔◌, List, length, map}
use Rattle.std.specs.List.{All, Contains, slice_index_or}
use Rattle.yds_model.specs.Job.{Job}
use Rattle.yds_intensity.specs.declared.sweeping.Sum.{Sum}
use Rattle.yds_model.specs.Confined.{work_within}

abbrev pub no_sum : Sum
no_sum = record { end = 0; work = 0 }

abbrev pub sum_at : List Sum → ℕ → Sum
sum_at sums i = slice_index_or sums i no_sum

-- the ends rise
abbrev pub HaveRisingEnds : List Sum → Type 0
HaveRisingEnds sums = (i j : ℕ) → i < j → j < length sums → (sum_at sums i).end < (sum_at sums j).end

-- One sum for each deadline after the start, rising, with the work of the jobs whose windows lie between the start and that
-- deadline.
pub record AreSums (jobs : List Job) (start : ℕ) (sums : List Sum) : Type 0 where
  pub rising : HaveRisingEnds sums
  pub ends : (end : ℕ) → Contains (map (λ sum. sum.end) sums) end ↔ ((start < end) × Contains (map (λ job. job.deadline) jobs) end)
  pub works : All (λ sum. sum.work ≡ work_within jobs start sum.end) sums
