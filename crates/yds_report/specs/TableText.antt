-- What the answer of `report` is worth to its reader.
use Rattle.std.specs.Prelude.{◌≡◌, ℕ, List, Ok}
use Rattle.yds_model.specs.Slot.{WrittenSlot}
use Rattle.yds_model.specs.Level.{Level}
use Rattle.yds_model.specs.Plan.{IsPlan}
use Rattle.yds_model.specs.Document.{Document}
use Rattle.yds_model.specs.Reading.{reading}
use Rattle.yds_model.specs.ReportAnswer.{report_text}

-- A table that a reader can use: the input is a document, and what was written is the table of the numbers of its jobs and of the levels of
-- a plan of them.
pub record TableOfPlan (input text : List ℕ) (document : Document) (slots : List WrittenSlot) (levels : List Level) : Type 0 where
  pub is_read : reading input ≡ Ok document
  pub plan : IsPlan document.jobs slots levels
  pub written : text ≡ report_text document.jobs levels

abbrev pub HoldsTable : List ℕ → List ℕ → Type 0
HoldsTable input text = (document : Document) × (slots : List WrittenSlot) × (levels : List Level) × TableOfPlan input text document slots levels
