-- Intervals of time and the work of jobs whose windows lie in them.
use Rattle.std.specs.Prelude.{◌≡◌, ℕ, ◌-◌, ◌*◌, ◌<◌, ◌≤◌, List}
use Rattle.std.specs.List.{Any}
use Rattle.yds_model.specs.Job.{Job}
use Rattle.yds_model.specs.Confined.{work_within}
use Rattle.yds_model.specs.Policy.{numbers_of}
use Rattle.yds_model.specs.Admission.{IsFirstOverfull}

-- no interval from this time on has more work than the top speed can do there
abbrev pub HasRoomFrom : ℕ → List Job → ℕ → Type 0
HasRoomFrom top jobs from = (to : ℕ) → from < to → work_within jobs from to ≤ top * (to - from)

-- of the intervals from this time to a deadline that have more work, this one ends first
pub record IsFirstEnd (top : ℕ) (jobs : List Job) (from to : ℕ) : Type 0 where
  pub forward : from < to
  pub is_deadline : Any (λ job. job.deadline ≡ to) jobs
  pub too_much : top * (to - from) < work_within jobs from to
  pub first : (other : ℕ) → from < other → other < to → work_within jobs from other ≤ top * (other - from)

-- of the intervals from this time that have more work this one ends first, and has so much
pub record IsFirstFrom (top : ℕ) (jobs : List Job) (start from to work : ℕ) : Type 0 where
  pub begins : from ≡ start
  pub ends : IsFirstEnd top jobs start to
  pub all : work ≡ work_within jobs start to

-- of all overfull intervals this one is the first, and has so much work
pub record IsFirstWith (top : ℕ) (jobs : List Job) (from to work : ℕ) : Type 0 where
  pub first : IsFirstOverfull jobs top (numbers_of jobs) from to
  pub all : work ≡ work_within jobs from to
