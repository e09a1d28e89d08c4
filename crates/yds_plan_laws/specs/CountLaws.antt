-- How many levels, pieces and slots there are at most. Each law is the contract of a public function of this crate.
use Rattle.std.specs.Prelude.{ℕ, ◌-◌, ◌*◌, ◌≤◌, List, length, nat_lt, count_by}
use Rattle.yds_model.specs.Job.{Job}
use Rattle.yds_model.specs.Slot.{WrittenSlot}
use Rattle.yds_model.specs.Scale.{Fraction}
use Rattle.yds_model.specs.Table.{Point}
use Rattle.yds_model.specs.Level.{Level, all_pieces}
use Rattle.yds_model.specs.Plan.{IsPlan}
use Rattle.yds_model.specs.Rounding.{IsRounding}
use Rattle.yds_model.specs.AverageRate.{IsAverageRateRun}
use Rattle.yds_model.specs.OptimalAvailable.{IsOptimalAvailableRun}

-- A plan has no more levels than jobs with work.
abbrev pub LevelsAreFew : Type 0
LevelsAreFew = (jobs : List Job) (slots : List WrittenSlot) (levels : List Level) → IsPlan jobs slots levels →
    length levels ≤ count_by (λ job. nat_lt 0 job.work) jobs

-- It has at most twice as many pieces as jobs, less one.
abbrev pub PiecesAreFew : Type 0
PiecesAreFew = (jobs : List Job) (slots : List WrittenSlot) (levels : List Level) → IsPlan jobs slots levels →
    length (all_pieces levels) ≤ 2 * length jobs - 1

-- And at most three times as many slots, less two.
abbrev pub PlanSlotsAreFew : Type 0
PlanSlotsAreFew = (jobs : List Job) (slots : List WrittenSlot) (levels : List Level) → IsPlan jobs slots levels → length slots ≤ 3 * length jobs - 2

-- So has a run of either policy.
pub record RunSlotsAreFew : Type 0 where
  pub average_rate : (jobs : List Job) (grid rounded : ℕ) (slots : List WrittenSlot) → IsAverageRateRun jobs grid rounded slots → length slots ≤ 3 * length jobs - 2
  pub optimal_available : (jobs : List Job) (grid rounded : ℕ) (slots : List WrittenSlot) → IsOptimalAvailableRun jobs grid rounded slots → length slots ≤ 3 * length jobs - 2

-- Rounded to operating points, a plan of some jobs has at most five times as many slots, less three.
abbrev pub RoundedSlotsAreFew : Type 0
RoundedSlotsAreFew = (jobs : List Job) (points : List Point) (planned written : List WrittenSlot) (levels : List Level) (energy : Fraction) →
    IsPlan jobs planned levels → IsRounding jobs points planned levels written energy → length written ≤ 5 * length jobs - 3
