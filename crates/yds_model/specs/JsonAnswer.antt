-- The answer of `report --json`: the report of a plan's levels as one line of JSON, compact, with rising keys.
use Rattle.std.specs.Prelude.{◌≡◌, ℕ, ◌-◌, List, ◌++◌, length, codes, decimal, map, sum_by}
use Rattle.std.specs.List.{All, join_with_byte}
use Rattle.base.specs.declared.status.Status.{Status}
use Rattle.base.specs.declared.status.Status.TheVariants as statuses
use Rattle.yds_model.specs.Job.{Job}
use Rattle.yds_model.specs.Slot.{WrittenSlot}
use Rattle.yds_model.specs.Level.{Level}
use Rattle.yds_model.specs.Plan.{IsPlan}
use Rattle.yds_model.specs.Energy.{first_release, last_deadline, horizon}
use Rattle.yds_model.specs.Document.{Document}
use Rattle.yds_model.specs.Within.{IsLevel}
use Rattle.yds_model.specs.ReportAnswer.{speed_text}

-- a level as an object; its speed, a fraction in lowest terms, is a string
abbrev pub level_json : Level → List ℕ
level_json level =
    codes "{\"length\":" ++ decimal level.length ++ codes ",\"speed\":\"" ++ speed_text level ++ codes "\",\"work\":" ++ decimal level.work ++ codes "}"

-- the numbers of the report; 44 is a comma
abbrev pub report_json : List Job → List Level → List ℕ
report_json jobs levels =
    codes "{\"from\":" ++ decimal (first_release jobs)
    ++ codes ",\"idle\":" ++ decimal (horizon jobs - sum_by (λ level. level.length) levels)
    ++ codes ",\"jobs\":" ++ decimal (length jobs)
    ++ codes ",\"levels\":[" ++ join_with_byte 44 (map level_json levels)
    ++ codes "],\"to\":" ++ decimal (last_deadline jobs)
    ++ codes ",\"work\":" ++ decimal (sum_by (λ job. job.work) jobs) ++ codes "}\n"

-- the text is that of a plan's levels, which are within the limits
pub record JsonAnswer (document : Document) (text : List ℕ) (status : Status) : Type 0 where
  pub slots : List WrittenSlot
  pub levels : List Level
  pub plan : IsPlan document.jobs slots levels
  pub fit : All IsLevel levels
  pub said : text ≡ report_json document.jobs levels
  pub ended : status ≡ statuses.Done
