-- The laws of what schedules cost on operating points that lie on a power of speed. Each is the contract of a public function of this crate.
-- The ratios on the power itself: Yao, Demers and Shenker (FOCS 1995); Bansal, Kimbrel and Pruhs (J. ACM 2007).
use Rattle.std.specs.Prelude.{ℕ, ◌+◌, ◌-◌, ◌*◌, ◌^◌, ◌≤◌, List, sum_by}
use Rattle.std.specs.List.{All}
use Rattle.yds_model.specs.Job.{Job}
use Rattle.yds_model.specs.Scale.{Fraction}
use Rattle.yds_model.specs.Slot.{WrittenSlot, WholeSlot, AtEachScale}
use Rattle.yds_model.specs.Piece.{Piece}
use Rattle.yds_model.specs.Level.{Level}
use Rattle.yds_model.specs.Plan.{IsPlan}
use Rattle.yds_model.specs.Table.{Point}
use Rattle.yds_model.specs.Policy.{IsRunAt}
use Rattle.yds_model.specs.Rounding.{IsRounding}
use Rattle.yds_model.specs.Comparison.{Spent, IsSpent, HoldsAll}
use Rattle.yds_model.specs.AverageRate.{IsAverageRateRun}
use Rattle.yds_model.specs.OptimalAvailable.{IsOptimalAvailableRun}
use Rattle.yds_point_laws.specs.PowerPoints.{ArePowerPoints, IsAtMostTimesAnd, quotient_of, power_spent, CostsByPower}

-- the work of all jobs
abbrev pub whole_work : List Job → ℕ
whole_work jobs = sum_by (λ job. job.work) jobs

-- What a plan and the run of any policy cost on points of a power, where none of their stretches is above the top point: at least what they
-- spend by the power, and at most so many times that and so much for each unit of work.
pub record PointsCostByPower : Type 0 where
  pub plan : (exponent p q slowest : ℕ) (jobs : List Job) (points : List Point) (slots : List WrittenSlot) (levels : List Level) (spent : Spent) →
      1 ≤ exponent → ArePowerPoints exponent p q slowest points → IsPlan jobs slots levels → HoldsAll jobs points slots spent →
      AtEachScale slots (CostsByPower exponent p q slowest (whole_work jobs) spent.energy)
  pub run : (exponent p q slowest : ℕ) (jobs : List Job) (points : List Point) (grid : ℕ) (capacity : ℕ → List WholeSlot → Piece → ℕ) (slots : List WrittenSlot)
      (spent : Spent) → 1 ≤ exponent → ArePowerPoints exponent p q slowest points → AtEachScale slots (λ scale whole. IsRunAt jobs grid scale (capacity scale whole) whole) →
      HoldsAll jobs points slots spent → AtEachScale slots (CostsByPower exponent p q slowest (whole_work jobs) spent.energy)

-- The run of a policy that never rounded costs on such points at most (p/q) ^ (exponent - 1) times `factor` times what a plan costs on them, and
-- slowest ^ (exponent - 1) for each unit of work.
abbrev pub RunsCostAtMost : (List Job → ℕ → ℕ → List WrittenSlot → Type 0) → (ℕ → ℕ) → Type 0
RunsCostAtMost IsRun factor = (exponent p q slowest : ℕ) (jobs : List Job) (points : List Point) (grid : ℕ) (slots planned : List WrittenSlot) (levels : List Level)
    (spent planned_spent : Spent) → 1 ≤ exponent → 1 ≤ grid → ArePowerPoints exponent p q slowest points → IsRun jobs grid 0 slots →
    HoldsAll jobs points slots spent → IsPlan jobs planned levels → IsSpent jobs points planned planned_spent →
    IsAtMostTimesAnd (record { num = factor exponent * p ^ (exponent - 1); den = q ^ (exponent - 1) }) (slowest ^ (exponent - 1) * whole_work jobs)
    (quotient_of spent.energy) (quotient_of planned_spent.energy)

-- It costs at most num / q ^ (exponent - 1) times what a plan does.
abbrev pub RunsCostTimes : (List Job → ℕ → ℕ → List WrittenSlot → Type 0) → (ℕ → ℕ → ℕ → ℕ) → Type 0
RunsCostTimes IsRun num = (exponent p q slowest : ℕ) (jobs : List Job) (points : List Point) (grid : ℕ) (slots planned : List WrittenSlot) (levels : List Level)
    (spent planned_spent : Spent) → 1 ≤ exponent → 1 ≤ grid → ArePowerPoints exponent p q slowest points → IsRun jobs grid 0 slots →
    HoldsAll jobs points slots spent → IsPlan jobs planned levels → IsSpent jobs points planned planned_spent →
    IsAtMostTimesAnd (record { num = num exponent p q; den = q ^ (exponent - 1) }) 0 (quotient_of spent.energy) (quotient_of planned_spent.energy)

-- the factor of Optimal Available, where power is speed to the exponent
abbrev pub available_factor : ℕ → ℕ
available_factor exponent = exponent ^ exponent

-- and that of Average Rate
abbrev pub rate_factor : ℕ → ℕ
rate_factor exponent = 2 ^ (exponent - 1) * exponent ^ exponent

-- So it is with both policies.
pub record PoliciesCostAtMost : Type 0 where
  pub optimal_available : RunsCostAtMost IsOptimalAvailableRun available_factor
  pub average_rate : RunsCostAtMost IsAverageRateRun rate_factor

-- Optimal Available costs at most (p/q) ^ (exponent - 1) times its factor times what a plan does, with nothing more. Average Rate costs at most that
-- with its factor, and what the plan does once more: a plan, too, costs slowest ^ (exponent - 1) for each unit of work.
pub record PoliciesCostTimes : Type 0 where
  pub optimal_available : RunsCostTimes IsOptimalAvailableRun (λ exponent p q. available_factor exponent * p ^ (exponent - 1))
  pub average_rate : RunsCostTimes IsAverageRateRun (λ exponent p q. rate_factor exponent * p ^ (exponent - 1) + q ^ (exponent - 1))

-- On points of the square, of which the slowest is no faster than any level of a plan, the plan rounded to them costs at most (p+q)^2 / (4pq) times
-- what it spends by the square.
abbrev pub SquaresCostAtMost : Type 0
SquaresCostAtMost = (p q slowest : ℕ) (jobs : List Job) (points : List Point) (planned : List WrittenSlot) (levels : List Level) (written : List WrittenSlot)
    (energy : Fraction) → ArePowerPoints 2 p q slowest points → IsPlan jobs planned levels → All (λ level. slowest * level.length ≤ level.work) levels →
    IsRounding jobs points planned levels written energy →
    AtEachScale planned (λ scale whole. IsAtMostTimesAnd (record { num = (p + q) * (p + q); den = 4 * (p * q) }) 0 (quotient_of energy) (power_spent 2 scale whole))
