-- The laws of how much more a policy can spend than any feasible schedule. Each is the contract of a public function of this crate.
-- Average Rate: Yao, Demers and Shenker (FOCS 1995). Optimal Available: Bansal, Kimbrel and Pruhs (J. ACM 2007).
use Rattle.std.specs.Prelude.{ℕ, ◌+◌, ◌-◌, ◌*◌, ◌^◌, ◌≤◌, List, ◌++◌}
use Rattle.std.specs.List.{All}
use Rattle.yds_model.specs.Job.{Job, work_of}
use Rattle.yds_model.specs.Slot.{WrittenSlot, IsSolid, IsScale, slots_at, AtEachScale}
use Rattle.yds_model.specs.Feasible.{IsFeasible}
use Rattle.yds_model.specs.Excess.{excess}
use Rattle.yds_model.specs.Level.{Level}
use Rattle.yds_model.specs.Plan.{IsPlan}
use Rattle.yds_model.specs.AverageRate.{IsAverageRateRun}
use Rattle.yds_model.specs.OptimalAvailable.{IsOptimalAvailableRun}
use Rattle.yds_ratios.specs.SpendingByPower.{spending, IsAtMostTimes, SpendsAtMost, time_above, faster_throughout}

-- What is so at one common scale is so at each.
abbrev pub OneScaleDecidesSpending : Type 0
OneScaleDecidesSpending = (exponent factor scale : ℕ) (slots others : List WrittenSlot) → All IsSolid (slots ++ others) → IsScale scale (slots ++ others) →
    IsAtMostTimes factor (spending exponent (slots_at scale slots)) (spending exponent (slots_at scale others)) → SpendsAtMost exponent factor slots others

-- A plan spends no more than any feasible schedule.
abbrev pub PlansSpendLeast : Type 0
PlansSpendLeast = (exponent : ℕ) (jobs : List Job) (slots others : List WrittenSlot) (levels : List Level) → 1 ≤ exponent → IsPlan jobs slots levels →
    IsFeasible jobs others → SpendsAtMost exponent 1 slots others

-- What a run of Optimal Available that never rounded does above a speed is at most the work of the jobs in all of whose window it is faster.
abbrev pub OptimalAvailableAboveASpeed : Type 0
OptimalAvailableAboveASpeed = (jobs : List Job) (grid : ℕ) (slots : List WrittenSlot) → 1 ≤ grid → IsOptimalAvailableRun jobs grid 0 slots →
    AtEachScale slots (λ scale whole. (p q : ℕ) → 1 ≤ q → excess p q whole ≤ q * scale * work_of jobs (faster_throughout jobs p q scale whole))

-- So what it does above p/q is at most what any feasible schedule does above r/s, and r/s times as long as it is faster than p/q.
-- Both sides are times q and s.
abbrev pub OptimalAvailableOfTwoSpeeds : Type 0
OptimalAvailableOfTwoSpeeds = (jobs : List Job) (grid scale p q r s : ℕ) (slots others : List WrittenSlot) → 1 ≤ grid → IsOptimalAvailableRun jobs grid 0 slots →
    IsFeasible jobs others → IsScale scale (slots ++ others) → 1 ≤ q → 1 ≤ s →
    s * excess p q (slots_at scale slots) ≤ q * excess r s (slots_at scale others) + q * r * time_above p q (slots_at scale slots)

-- So it spends at most exponent ^ exponent times what any feasible schedule does.
abbrev pub OptimalAvailableSpends : Type 0
OptimalAvailableSpends = (exponent : ℕ) (jobs : List Job) (grid : ℕ) (slots others : List WrittenSlot) → 1 ≤ exponent → 1 ≤ grid →
    IsOptimalAvailableRun jobs grid 0 slots → IsFeasible jobs others → SpendsAtMost exponent (exponent ^ exponent) slots others

-- A run of Average Rate that never rounded spends at most 2 ^ (exponent - 1) times that.
abbrev pub AverageRateSpends : Type 0
AverageRateSpends = (exponent : ℕ) (jobs : List Job) (grid : ℕ) (slots others : List WrittenSlot) → 1 ≤ exponent → 1 ≤ grid →
    IsAverageRateRun jobs grid 0 slots → IsFeasible jobs others → SpendsAtMost exponent (2 ^ (exponent - 1) * exponent ^ exponent) slots others
