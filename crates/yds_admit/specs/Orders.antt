-- Jobs by their deadlines.
use Rattle.std.specs.Prelude.{List}
use Rattle.std.specs.List.Sorted.{IsPermutation, IsNonDecreasingBy}
use Rattle.yds_model.specs.Job.{Job}

-- the jobs by rising deadlines
pub record AreOrdered (jobs by_deadline : List Job) : Type 0 where
  pub deadlines : IsPermutation jobs by_deadline
  pub rising : IsNonDecreasingBy (λ job. job.deadline) by_deadline
