-- The answer of `report`: a plan's levels as a table.
use Rattle.std.specs.Prelude.{◌≡◌, ℕ, ◌-◌, List, [], ◌∷◌, ◌++◌, length, codes, decimal, sum_by, replicate}
use Rattle.std.specs.List.{flat_map, enumerate_from}
use Rattle.base.specs.declared.status.Status.{Status}
use Rattle.base.specs.declared.status.Status.TheVariants as statuses
use Rattle.yds_model.specs.Job.{Job}
use Rattle.yds_model.specs.Slot.{WrittenSlot}
use Rattle.yds_model.specs.Level.{Level}
use Rattle.yds_model.specs.Divisor.{in_lowest_terms}
use Rattle.yds_model.specs.Document.{Document}
use Rattle.base.specs.Lines.{line}
use Rattle.yds_model.specs.Text.{fraction_text}
use Rattle.yds_model.specs.Energy.{first_release, last_deadline, horizon}
use Rattle.yds_model.specs.Plan.{IsPlan}

-- a number at the right of so many places, whole where it has more digits
abbrev pub right : ℕ → ℕ → List ℕ
right places n = replicate (places - length (decimal n)) 32 ++ decimal n

-- the speed of a level as a fraction in lowest terms
abbrev pub speed_text : Level → List ℕ
speed_text level =
    fraction_text (in_lowest_terms level.work level.length)

abbrev pub level_row : ℕ × Level → List ℕ
level_row numbered = line (right 5 numbered.0 ∷ right 10 numbered.1.work ∷ right 10 numbered.1.length ∷ speed_text numbered.1 ∷ [])

-- the line of the jobs: how many, their work together, the first release and the last deadline
abbrev pub jobs_row : List Job → List ℕ
jobs_row jobs =
    line (codes "jobs" ∷ decimal (length jobs) ∷ codes "work" ∷ decimal (sum_by (λ job. job.work) jobs)
    ∷ codes "from" ∷ decimal (first_release jobs) ∷ codes "to" ∷ decimal (last_deadline jobs) ∷ [])

-- the line of the time in which nothing runs
abbrev pub idle_row : List Job → List Level → List ℕ
idle_row jobs levels = line (codes "idle" ∷ decimal (horizon jobs - sum_by (λ level. level.length) levels) ∷ [])

abbrev pub report_text : List Job → List Level → List ℕ
report_text jobs levels = jobs_row jobs ++ flat_map level_row (enumerate_from 1 levels) ++ idle_row jobs levels

pub record ReportAnswer (document : Document) (text : List ℕ) (status : Status) : Type 0 where
  pub slots : List WrittenSlot
  pub levels : List Level
  pub plan : IsPlan document.jobs slots levels
  pub said : text ≡ report_text document.jobs levels
  pub ended : status ≡ statuses.Done
