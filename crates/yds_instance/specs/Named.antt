-- Jobs with their names. The number of a job, from 0, is the place of its row and of its name.
use Rattle.std.specs.Prelude.{ℕ, List, Option}
use Rattle.std.specs.List.{position}
use Rattle.std.specs.Str.{bytes_eq}
use Rattle.yds_model.specs.Job.{Job}

pub record Named : Type 0 where
  pub names : List (List ℕ)
  pub jobs : List Job

-- the number of the job with this name
abbrev pub number_of : List (List ℕ) → List ℕ → Option ℕ
number_of names name = position (λ other. bytes_eq other name) names
