-- What the answer of `compare` is worth, as laws of the relation of words, input, text and status.
use Rattle.std.specs.Prelude.{◌≡◌, ℕ, List, [], ◌∷◌, ◌++◌, length, codes, Some, Ok}
use Rattle.std.specs.List.{All}
use Rattle.base.specs.declared.status.Status.{Status}
use Rattle.base.specs.declared.status.Status.TheVariants.{Done, No}
use Rattle.yds_model.specs.Scale.{Fraction, IsAtMost}
use Rattle.yds_model.specs.Slot.{WrittenSlot}
use Rattle.yds_model.specs.Divisor.{IsLowest}
use Rattle.yds_model.specs.Table.{Point}
use Rattle.yds_model.specs.Document.{Document}
use Rattle.base.specs.Lines.{line}
use Rattle.yds_model.specs.Text.{fraction_text, canonical_text}
use Rattle.yds_model.specs.Reading.{reading}
use Rattle.yds_model.specs.Comparison.{Spent, Side, Spends, TooSlowFor}
use Rattle.yds_model.specs.CompareAnswer.{ComparedAnswer}
use Rattle.yds_model.specs.Request.{AskCompare, OfDocument}
use Rattle.yds_model.specs.Answer.{AnswersRequest, Answers}
use Rattle.yds_texts.specs.RoundText.{with_energy, HoldsTooSlow}

-- the line of a plan's energy
abbrev pub plan_energy_line : Fraction → List ℕ
plan_energy_line energy = line (codes "plan" ∷ codes "energy" ∷ fraction_text energy ∷ [])

-- `compare` and `round` tell one energy: it is in the first line of the one text, and in the document that the other is the text of.
pub record TellOneEnergy (input compared rounded : List ℕ) : Type 0 where
  pub document : Document
  pub slots : List WrittenSlot
  pub energy : Fraction
  pub other_lines : List ℕ
  pub read : reading input ≡ Ok document
  pub by_round : rounded ≡ canonical_text (with_energy document slots energy)
  pub by_compare : compared ≡ plan_energy_line energy ++ other_lines

-- To one input `compare` and `round` answer with the same status, on whatever grid, and where they are done they tell one energy.
pub record ComparedAsRounded : Type 0 where
  pub energy : (grid : ℕ) (input compared rounded : List ℕ) → AnswersRequest (Some (OfDocument (AskCompare grid))) input compared Done →
      Answers (codes "round" ∷ []) input rounded Done → TellOneEnergy input compared rounded
  pub status : (grid : ℕ) (input compared rounded : List ℕ) (one other : Status) → AnswersRequest (Some (OfDocument (AskCompare grid))) input compared one →
      Answers (codes "round" ∷ []) input rounded other → one ≡ other

-- the energy that a side tells, where it tells one, isn't less
abbrev pub CostsNoLess : Fraction → Side → Type 0
CostsNoLess energy (Spends spent) = IsAtMost energy spent.energy
CostsNoLess energy (TooSlowFor units from to) = Unit {0}

-- What is told of a schedule: an energy, and a time for each point, all in lowest terms.
pub record AreTold (points : List Point) (spent : Spent) : Type 0 where
  pub energy : IsLowest spent.energy
  pub a_time_each : length spent.times ≡ length points
  pub times : All IsLowest spent.times

abbrev pub IsToldSide : List Point → Side → Type 0
IsToldSide points (Spends spent) = AreTold points spent
IsToldSide points (TooSlowFor units from to) = Unit {0}

-- The text tells what a plan of the document's jobs and the runs of both policies spend by the definitions. Where a policy's energy is told, it isn't less than
-- the plan's.
pub record PlanIsCheapest (grid : ℕ) (input text : List ℕ) : Type 0 where
  pub document : Document
  pub read : reading input ≡ Ok document
  pub answer : ComparedAnswer document grid text Done
  pub plan_told : AreTold document.points answer.plan_spent
  pub average_told : IsToldSide document.points answer.average_side
  pub optimal_told : IsToldSide document.points answer.optimal_side
  pub average_rate : CostsNoLess answer.plan_spent.energy answer.average_side
  pub optimal_available : CostsNoLess answer.plan_spent.energy answer.optimal_side

-- So it is for each text that `compare` writes where it is done.
abbrev pub ComparedPlanIsCheapest : Type 0
ComparedPlanIsCheapest = (grid : ℕ) (input text : List ℕ) → AnswersRequest (Some (OfDocument (AskCompare grid))) input text Done → PlanIsCheapest grid input text

-- What the text of a comparison is worth to its reader: neither policy is told less energy than the plan, and the plan the energy that
-- `round` tells of the same input.
pub record HoldsComparison (grid : ℕ) (input text : List ℕ) : Type 0 where
  pub cheapest : PlanIsCheapest grid input text
  pub as_rounded : (rounded : List ℕ) → Answers (codes "round" ∷ []) input rounded Done → TellOneEnergy input text rounded

-- Where `compare` says no, its text says that the table is too slow for the jobs.
abbrev pub ComparedIsTooSlow : Type 0
ComparedIsTooSlow = (grid : ℕ) (input text : List ℕ) → AnswersRequest (Some (OfDocument (AskCompare grid))) input text No → HoldsTooSlow input text
