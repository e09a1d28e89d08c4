-- What the answer of `report --json` is worth to its reader.
use Rattle.std.specs.Prelude.{◌≡◌, ℕ, List, Some, Ok}
use Rattle.serde_json.specs.Read.{read}
use Rattle.yds_model.specs.Slot.{WrittenSlot}
use Rattle.yds_model.specs.Level.{Level}
use Rattle.yds_model.specs.Plan.{IsPlan}
use Rattle.yds_model.specs.Document.{Document}
use Rattle.yds_model.specs.Reading.{reading}
use Rattle.yds_report.specs.JsonValue.{report_value}

-- A report that a program can use: the input is a document, and what was written is read by `serde_json` as the numbers of its jobs and of the
-- levels of a plan of them.
pub record ReadReport (input text : List ℕ) (document : Document) (slots : List WrittenSlot) (levels : List Level) : Type 0 where
  pub is_read : reading input ≡ Ok document
  pub plan : IsPlan document.jobs slots levels
  pub value : read text ≡ Some (report_value document.jobs levels)

abbrev pub HoldsReport : List ℕ → List ℕ → Type 0
HoldsReport input text = (document : Document) × (slots : List WrittenSlot) × (levels : List Level) × ReadReport input text document slots levels
