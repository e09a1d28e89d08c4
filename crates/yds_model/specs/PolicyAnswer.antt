-- The answers of `avr` and `oa`: the document's jobs and points, with the slots of a policy's run and its grid.
use Rattle.std.specs.Prelude.{[], ◌≡◌, ℕ, List, Some, None}
use Rattle.std.specs.List.{All}
use Rattle.base.specs.declared.status.Status.{Status}
use Rattle.base.specs.declared.status.Status.TheVariants as statuses
use Rattle.yds_model.specs.Slot.{WrittenSlot}
use Rattle.yds_model.specs.Document.{Document, with_answer}
use Rattle.yds_model.specs.Within.{IsTextOf}
use Rattle.yds_model.specs.Policy.{HasRunDenominators}
use Rattle.yds_model.specs.AverageRate.{IsAverageRateRun}
use Rattle.yds_model.specs.OptimalAvailable.{IsOptimalAvailableRun}

pub record AverageRateAnswer (document : Document) (grid : ℕ) (text : List ℕ) (status : Status) : Type 0 where
  pub slots : List WrittenSlot
  pub rounded : ℕ
  pub run : IsAverageRateRun document.jobs grid rounded slots
  pub denominators : All (HasRunDenominators document.jobs grid) slots
  pub said : IsTextOf (with_answer document slots [] (Some (record { grid = grid; rounded = rounded })) None) text
  pub ended : status ≡ statuses.Done

pub record OptimalAvailableAnswer (document : Document) (grid : ℕ) (text : List ℕ) (status : Status) : Type 0 where
  pub slots : List WrittenSlot
  pub rounded : ℕ
  pub run : IsOptimalAvailableRun document.jobs grid rounded slots
  pub denominators : All (HasRunDenominators document.jobs grid) slots
  pub said : IsTextOf (with_answer document slots [] (Some (record { grid = grid; rounded = rounded })) None) text
  pub ended : status ≡ statuses.Done
