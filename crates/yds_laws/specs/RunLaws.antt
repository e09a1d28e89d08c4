-- What a run is that never rounded, by the definitions.
use Rattle.std.specs.Prelude.{◌≡◌, ℕ, ◌-◌, ◌*◌, ◌<◌, ◌≤◌, ◌⊎◌, List, true}
use Rattle.std.specs.List.{All, Any}
use Rattle.yds_model.specs.Job.{Job}
use Rattle.yds_model.specs.Slot.{WrittenSlot, WholeSlot, AtEachScale}
use Rattle.yds_model.specs.Piece.{Piece}
use Rattle.yds_model.specs.Event.{stretches}
use Rattle.yds_model.specs.AverageRate.{is_live, term_numerator, term_of, terms_of, IsAverageRateRun}
use Rattle.yds_model.specs.OptimalAvailable.{due_units, pending_deadlines, units_asked, IsOptimalAvailableRun}
use Rattle.yds_model.specs.Comparison.{work_in}

-- each live job's part of the stretch is just its units times the stretch's length, divided by its window's length
abbrev pub HasWholeTerms : List Job → ℕ → Piece → Type 0
HasWholeTerms jobs grid stretch = All (λ job. is_live stretch job ≡ true →
    term_of grid stretch job * (job.deadline - job.release) ≡ term_numerator grid stretch job) jobs

-- At a scale: the stretch does just the sum of those parts.
pub record DoesItsTerms (jobs : List Job) (grid scale : ℕ) (slots : List WholeSlot) (stretch : Piece) : Type 0 where
  pub whole : HasWholeTerms jobs grid stretch
  pub does : grid * work_in scale stretch slots ≡ scale * terms_of jobs grid stretch

-- Average Rate itself, without rounding: each stretch does so.
abbrev pub IsExactAverageRate : List Job → ℕ → List WrittenSlot → Type 0
IsExactAverageRate jobs grid slots = AtEachScale slots (λ scale whole. All (DoesItsTerms jobs grid scale whole) (stretches jobs))

-- A run of Average Rate that never rounded is that.
abbrev pub AverageRateIsExact : Type 0
AverageRateIsExact = (jobs : List Job) (grid : ℕ) (slots : List WrittenSlot) → 1 ≤ grid → IsAverageRateRun jobs grid 0 slots →
    IsExactAverageRate jobs grid slots

-- At a scale: the stretch does the units that are asked, no deadline of a pending job asks more, and where some are asked, one asks
-- just that much. So its speed is the greatest quotient of the units that are due by a deadline and the time until then.
pub record HasGreatestSpeed (jobs : List Job) (grid scale : ℕ) (slots : List WholeSlot) (stretch : Piece) : Type 0 where
  pub does : grid * work_in scale stretch slots ≡ scale * units_asked jobs grid scale slots stretch
  pub most : All (λ deadline. stretch.from < deadline → due_units jobs grid scale slots stretch deadline * (stretch.to - stretch.from)
      ≤ units_asked jobs grid scale slots stretch * (scale * (deadline - stretch.from))) (pending_deadlines jobs scale slots stretch)
  pub attained : (units_asked jobs grid scale slots stretch ≡ 0)
      ⊎ Any (λ deadline. due_units jobs grid scale slots stretch deadline * (stretch.to - stretch.from)
      ≡ units_asked jobs grid scale slots stretch * (scale * (deadline - stretch.from))) (pending_deadlines jobs scale slots stretch)

-- Optimal Available itself, without rounding: each stretch has it.
abbrev pub IsExactOptimalAvailable : List Job → ℕ → List WrittenSlot → Type 0
IsExactOptimalAvailable jobs grid slots = AtEachScale slots (λ scale whole. All (HasGreatestSpeed jobs grid scale whole) (stretches jobs))

-- A run of Optimal Available that never rounded is that.
abbrev pub OptimalAvailableIsExact : Type 0
OptimalAvailableIsExact = (jobs : List Job) (grid : ℕ) (slots : List WrittenSlot) → 1 ≤ grid → IsOptimalAvailableRun jobs grid 0 slots →
    IsExactOptimalAvailable jobs grid slots
