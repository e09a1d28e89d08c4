-- Jobs in three lists.
use Rattle.std.specs.Prelude.{◌≡◌, ℕ, List, [], ◌∷◌, length}
use Rattle.yds_model.specs.Job.{Job}

-- the jobs with these releases, deadlines and works
abbrev pub listed_jobs : List ℕ → List ℕ → List ℕ → List Job
listed_jobs [] deadlines works = []
listed_jobs (release ∷ releases) [] works = []
listed_jobs (release ∷ releases) (deadline ∷ deadlines) [] = []
listed_jobs (release ∷ releases) (deadline ∷ deadlines) (work ∷ works) =
    record { release = release; deadline = deadline; work = work } ∷ listed_jobs releases deadlines works

-- as many deadlines and works as releases
pub record AreRows (releases deadlines works : List ℕ) : Type 0 where
  pub due : length deadlines ≡ length releases
  pub wanted : length works ≡ length releases
