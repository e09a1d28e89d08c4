-- What the answers of `avr` and `oa` are worth, as laws of the relation of words, input, text and status.
use Rattle.std.specs.Prelude.{◌≡◌, ℕ, ◌≤◌, List, [], ◌∷◌, length, codes, Some, None, Ok}
use Rattle.base.specs.declared.limits.TheConstants.{MAX_INPUT}
use Rattle.base.specs.declared.status.Status.TheVariants.{Done}
use Rattle.yds_model.specs.Job.{Job}
use Rattle.yds_model.specs.Slot.{WrittenSlot}
use Rattle.yds_model.specs.Feasible.{IsFeasible}
use Rattle.yds_model.specs.AverageRate.{IsAverageRateRun}
use Rattle.yds_model.specs.OptimalAvailable.{IsOptimalAvailableRun}
use Rattle.yds_model.specs.Document.{Document, with_answer}
use Rattle.yds_model.specs.Text.{canonical_text}
use Rattle.yds_model.specs.Reading.{reading}
use Rattle.yds_model.specs.Request.{Question, AskAverageRate, AskOptimalAvailable, OfDocument}
use Rattle.yds_model.specs.Answer.{AnswersRequest, Answers}
use Rattle.yds_laws.specs.RunLaws.{IsExactAverageRate, IsExactOptimalAvailable}

-- the same jobs and points, with these slots and the grid of the run, and nothing else
abbrev pub with_run : Document → List WrittenSlot → ℕ → ℕ → Document
with_run document slots grid rounded = with_answer document slots [] (Some (record { grid = grid; rounded = rounded })) None

-- A run that can be relied on: the input is a document; what was written may be an input, and is read again as a document with the
-- same jobs and points, whose slots are a run of the policy on the grid, and so give every job its work inside its window. Where the text
-- says that the run never rounded, it is the policy's own.
pub record ReadRun (IsRun : List Job → ℕ → ℕ → List WrittenSlot → Type 0) (IsExact : List Job → ℕ → List WrittenSlot → Type 0) (grid : ℕ) (input text : List ℕ) : Type 0 where
  pub document : Document
  pub slots : List WrittenSlot
  pub rounded : ℕ
  pub read : reading input ≡ Ok document
  pub written : text ≡ canonical_text (with_run document slots grid rounded)
  pub short : length text ≤ MAX_INPUT
  pub read_again : reading text ≡ Ok (with_run document slots grid rounded)
  pub run : IsRun document.jobs grid rounded slots
  pub feasible : IsFeasible document.jobs slots
  pub exact : rounded ≡ 0 → IsExact document.jobs grid slots

-- such a run of Average Rate, and of Optimal Available
abbrev pub HoldsAverageRate : ℕ → List ℕ → List ℕ → Type 0
HoldsAverageRate grid input text = ReadRun IsAverageRateRun IsExactAverageRate grid input text

abbrev pub HoldsOptimalAvailable : ℕ → List ℕ → List ℕ → Type 0
HoldsOptimalAvailable grid input text = ReadRun IsOptimalAvailableRun IsExactOptimalAvailable grid input text

-- The texts that `avr` and `oa` write where they are done hold such a run.
pub record RunsAreRead : Type 0 where
  pub average_rate : (grid : ℕ) (input text : List ℕ) → AnswersRequest (Some (OfDocument (AskAverageRate grid))) input text Done →
      HoldsAverageRate grid input text
  pub optimal_available : (grid : ℕ) (input text : List ℕ) → AnswersRequest (Some (OfDocument (AskOptimalAvailable grid))) input text Done →
      HoldsOptimalAvailable grid input text

-- `audit` answers them with 'feasible'.
abbrev pub IsAudited : Question → Type 0
IsAudited question = (input text : List ℕ) → AnswersRequest (Some (OfDocument question)) input text Done →
    Answers (codes "audit" ∷ []) text (codes "feasible\n") Done

pub record RunsAreFeasible : Type 0 where
  pub average_rate : (grid : ℕ) → IsAudited (AskAverageRate grid)
  pub optimal_available : (grid : ℕ) → IsAudited (AskOptimalAvailable grid)
