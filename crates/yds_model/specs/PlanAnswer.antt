-- The answer of `plan`: the document's jobs and points, with the slots and the levels of a plan of its jobs.
use Rattle.std.specs.Prelude.{◌≡◌, ℕ, List, None}
use Rattle.base.specs.declared.status.Status.{Status}
use Rattle.base.specs.declared.status.Status.TheVariants as statuses
use Rattle.yds_model.specs.Slot.{WrittenSlot}
use Rattle.yds_model.specs.Level.{Level}
use Rattle.yds_model.specs.Plan.{IsPlan}
use Rattle.yds_model.specs.Document.{Document, with_answer}
use Rattle.yds_model.specs.Within.{IsTextOf}

-- the same jobs and points, with these slots and levels, and nothing else
abbrev pub with_plan : Document → List WrittenSlot → List Level → Document
with_plan document slots levels = with_answer document slots levels None None

-- the text is that of the document with a plan of its jobs
pub record PlanAnswer (document : Document) (text : List ℕ) (status : Status) : Type 0 where
  pub slots : List WrittenSlot
  pub levels : List Level
  pub plan : IsPlan document.jobs slots levels
  pub said : IsTextOf (with_plan document slots levels) text
  pub ended : status ≡ statuses.Done
