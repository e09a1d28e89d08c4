-- The laws of runs of parts. Each is the contract of a public function of this crate.
use Rattle.std.specs.Prelude.{ℕ, ◌+◌, List, ◌++◌}
use Rattle.std.specs.List.{All}
use Rattle.yds_model.specs.Job.{Job}
use Rattle.yds_model.specs.Slot.{WrittenSlot}
use Rattle.yds_model.specs.Policy.{HasRunDenominators}
use Rattle.yds_model.specs.AverageRate.{IsAverageRateRun}
use Rattle.yds_model.specs.OptimalAvailable.{IsOptimalAvailableRun}
use Rattle.yds_parts.specs.Parts.{ArePartedAt, slots_in_turn, WindowsAreForward}

-- Runs of Average Rate of both parts, one after another, are one of all jobs, and the counts of the stretches that round add.
abbrev pub AverageRateOfParts : Type 0
AverageRateOfParts = (time grid rounded later_rounded : ℕ) (first second : List Job) (slots others : List WrittenSlot) → ArePartedAt time first second →
    WindowsAreForward first → WindowsAreForward second → IsAverageRateRun first grid rounded slots → IsAverageRateRun second grid later_rounded others →
    IsAverageRateRun (first ++ second) grid (rounded + later_rounded) (slots_in_turn first slots others)

-- So are runs of Optimal Available.
abbrev pub OptimalAvailableOfParts : Type 0
OptimalAvailableOfParts = (time grid rounded later_rounded : ℕ) (first second : List Job) (slots others : List WrittenSlot) → ArePartedAt time first second →
    WindowsAreForward first → WindowsAreForward second → IsOptimalAvailableRun first grid rounded slots → IsOptimalAvailableRun second grid later_rounded others →
    IsOptimalAvailableRun (first ++ second) grid (rounded + later_rounded) (slots_in_turn first slots others)

-- And the denominators stay those in which the program writes a run.
abbrev pub RunDenominatorsOfParts : Type 0
RunDenominatorsOfParts = (time grid : ℕ) (first second : List Job) (slots others : List WrittenSlot) → ArePartedAt time first second →
    WindowsAreForward first → WindowsAreForward second → All (HasRunDenominators first grid) slots → All (HasRunDenominators second grid) others →
    All (HasRunDenominators (first ++ second) grid) (slots_in_turn first slots others)
