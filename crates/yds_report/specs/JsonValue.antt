-- The report of a plan's levels as a value of JSON. An object's members stand in order of their keys.
use Rattle.std.specs.Prelude.{◌≡◌, ℕ, ◌-◌, ◌≤◌, List, length, codes, map, sum_by, Some}
use Rattle.std.specs.List.{All}
use Rattle.serde_json.specs.Read.{read}
use Rattle.base.specs.declared.limits.TheConstants.{MAX_JOBS}
use Rattle.yds_model.specs.Job.{IsJob}
use Rattle.yds_model.specs.JsonAnswer.{report_json}
use Rattle.yds_model.specs.Within.{IsLevel}
use Rattle.serde_json.specs.Data.{Data, number, unsigned, string, array, object, member, no_members}
use Rattle.serde_json.specs.View.{items_of}
use Rattle.yds_model.specs.Job.{Job}
use Rattle.yds_model.specs.Level.{Level}
use Rattle.yds_model.specs.Energy.{first_release, last_deadline, horizon}
use Rattle.yds_model.specs.ReportAnswer.{speed_text}

abbrev pub whole : ℕ → Data
whole n = number (unsigned n)

-- a level: its speed is a string, since it may be a fraction
abbrev pub level_value : Level → Data
level_value level =
    object (member (codes "length") (whole level.length) (member (codes "speed") (string (speed_text level)) (member (codes "work") (whole level.work) no_members)))

-- these numbers and these levels
abbrev pub numbers_value : (from idle count : ℕ) → List Level → (to work : ℕ) → Data
numbers_value from idle count levels to work =
    object (member (codes "from") (whole from)
    (member (codes "idle") (whole idle)
    (member (codes "jobs") (whole count)
    (member (codes "levels") (array (items_of (map level_value levels)))
    (member (codes "to") (whole to)
    (member (codes "work") (whole work) no_members))))))

abbrev pub report_value : List Job → List Level → Data
report_value jobs levels =
    numbers_value (first_release jobs) (horizon jobs - sum_by (λ level. level.length) levels) (length jobs) levels (last_deadline jobs) (sum_by (λ job. job.work) jobs)

-- The text of a report of levels within the limits is read by `serde_json` as the value of the report.
abbrev pub ReportsAreRead : Type 0
ReportsAreRead = (jobs : List Job) (levels : List Level) → All IsJob jobs → length jobs ≤ MAX_JOBS → All IsLevel levels →
    read (report_json jobs levels) ≡ Some (report_value jobs levels)
