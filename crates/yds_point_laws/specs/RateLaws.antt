-- The laws of a run of Average Rate that rounds. Each is the contract of a public function of this crate.
-- Average Rate: Yao, Demers and Shenker (FOCS 1995).
use Rattle.std.specs.Prelude.{ℕ, ◌-◌, ◌*◌, ◌^◌, ◌≤◌, List, ◌++◌}
use Rattle.std.specs.List.{All}
use Rattle.yds_model.specs.Job.{Job}
use Rattle.yds_model.specs.Slot.{WrittenSlot, IsScale, AtEachScale, slots_at}
use Rattle.yds_model.specs.Feasible.{IsFeasible}
use Rattle.yds_model.specs.Level.{Level}
use Rattle.yds_model.specs.Plan.{IsPlan}
use Rattle.yds_model.specs.Table.{Point}
use Rattle.yds_model.specs.Comparison.{Spent, IsSpent, HoldsAll}
use Rattle.yds_model.specs.Event.{stretches}
use Rattle.yds_model.specs.AverageRate.{IsAverageRateRun}
use Rattle.yds_ratios.specs.SpendingByPower.{sum_of_quotients, IsAtMostTimes}
use Rattle.yds_point_laws.specs.PowerPoints.{ArePowerPoints, IsAtMostTimesAnd, quotient_of, power_spent}
use Rattle.yds_point_laws.specs.PointLaws.{whole_work, rate_factor}
use Rattle.yds_point_laws.specs.PolicyRate.{multiple_of_quotient, policy_speed, rounded_speed, speed_in, policy_spends, rounded_spends}

-- In each stretch a run is at most one unit of the grid faster than the policy for each live job whose part it rounds up, done in all of the stretch.
abbrev pub RunsAreNearThePolicy : Type 0
RunsAreNearThePolicy = (jobs : List Job) (grid rounded : ℕ) (slots : List WrittenSlot) → 1 ≤ grid → IsAverageRateRun jobs grid rounded slots →
    AtEachScale slots (λ scale whole. All (λ stretch.
    IsAtMostTimes 1 (speed_in scale whole stretch) (sum_of_quotients (policy_speed jobs stretch) (rounded_speed jobs grid stretch))) (stretches jobs))

-- So it spends at most 2 ^ (exponent - 1) times what the policy itself and those units spend, together.
abbrev pub RunsSpendNearThePolicy : Type 0
RunsSpendNearThePolicy = (exponent : ℕ) (jobs : List Job) (grid rounded : ℕ) (slots : List WrittenSlot) → 1 ≤ exponent → 1 ≤ grid → IsAverageRateRun jobs grid rounded slots →
    AtEachScale slots (λ scale whole.
    IsAtMostTimes (2 ^ (exponent - 1)) (power_spent exponent scale whole) (sum_of_quotients (policy_spends exponent jobs) (rounded_spends exponent jobs grid)))

-- The policy itself spends at most its factor times what any feasible schedule does.
abbrev pub PolicySpendsAtMost : Type 0
PolicySpendsAtMost = (exponent : ℕ) (jobs : List Job) (others : List WrittenSlot) → 1 ≤ exponent → IsFeasible jobs others →
    AtEachScale others (λ scale whole. IsAtMostTimes (rate_factor exponent) (policy_spends exponent jobs) (power_spent exponent scale whole))

-- So a run spends at most 2 ^ (exponent - 1) times that and what its rounded units spend, together.
abbrev pub RunsSpendAtMost : Type 0
RunsSpendAtMost = (exponent : ℕ) (jobs : List Job) (grid rounded : ℕ) (slots others : List WrittenSlot) (scale : ℕ) → 1 ≤ exponent → 1 ≤ grid →
    IsAverageRateRun jobs grid rounded slots → IsFeasible jobs others → IsScale scale (slots ++ others) →
    IsAtMostTimes (2 ^ (exponent - 1)) (power_spent exponent scale (slots_at scale slots))
    (sum_of_quotients (multiple_of_quotient (rate_factor exponent) (power_spent exponent scale (slots_at scale others))) (rounded_spends exponent jobs grid))

-- And on operating points of a power it costs at most 2 ^ (exponent - 1) times (p/q) ^ (exponent - 1) times what its factor makes of what a plan costs
-- there and what its rounded units spend, together; and slowest ^ (exponent - 1) for each unit of work.
abbrev pub RoundedRunsCostAtMost : Type 0
RoundedRunsCostAtMost = (exponent p q slowest : ℕ) (jobs : List Job) (points : List Point) (grid rounded : ℕ) (slots planned : List WrittenSlot) (levels : List Level)
    (spent planned_spent : Spent) → 1 ≤ exponent → 1 ≤ grid → ArePowerPoints exponent p q slowest points → IsAverageRateRun jobs grid rounded slots →
    HoldsAll jobs points slots spent → IsPlan jobs planned levels → IsSpent jobs points planned planned_spent →
    IsAtMostTimesAnd (record { num = 2 ^ (exponent - 1) * p ^ (exponent - 1); den = q ^ (exponent - 1) }) (slowest ^ (exponent - 1) * whole_work jobs) (quotient_of spent.energy)
    (sum_of_quotients (multiple_of_quotient (rate_factor exponent) (quotient_of planned_spent.energy)) (rounded_spends exponent jobs grid))
