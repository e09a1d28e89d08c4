-- The answer of `round`: the document's jobs and points, with a plan's slots on the points and their energy.
use Rattle.std.specs.Prelude.{◌≡◌, ℕ, ◌⊎◌, List, [], ◌∷◌, codes, decimal, Some, None}
use Rattle.base.specs.declared.status.Status.{Status}
use Rattle.base.specs.declared.status.Status.TheVariants as statuses
use Rattle.yds_model.specs.Scale.{Fraction}
use Rattle.yds_model.specs.Slot.{WrittenSlot}
use Rattle.yds_model.specs.Level.{Level}
use Rattle.yds_model.specs.Document.{Document, with_answer}
use Rattle.base.specs.Lines.{line}
use Rattle.yds_model.specs.Within.{IsTextOf}
use Rattle.yds_model.specs.Plan.{IsPlan}
use Rattle.yds_model.specs.Rounding.{top_of, IsTooFast, IsRounding}

-- the top point is slower than the first level of a plan
pub record TooSlowAnswer (document : Document) (text : List ℕ) (status : Status) : Type 0 where
  pub slots : List WrittenSlot
  pub level : Level
  pub others : List Level
  pub plan : IsPlan document.jobs slots (level ∷ others)
  pub too_fast : IsTooFast document.points level
  pub said : text ≡ line (codes "too-slow" ∷ codes "work" ∷ decimal level.work ∷ codes "length" ∷ decimal level.length ∷ codes "top" ∷ decimal (top_of document.points) ∷ [])
  pub ended : status ≡ statuses.No

-- a plan's slots, rounded, and their energy
pub record RoundedAnswer (document : Document) (text : List ℕ) (status : Status) : Type 0 where
  pub planned : List WrittenSlot
  pub levels : List Level
  pub plan : IsPlan document.jobs planned levels
  pub slots : List WrittenSlot
  pub energy : Fraction
  pub rounded : IsRounding document.jobs document.points planned levels slots energy
  pub said : IsTextOf (with_answer document slots [] None (Some energy)) text
  pub ended : status ≡ statuses.Done

abbrev pub RoundAnswer : Document → List ℕ → Status → Type 0
RoundAnswer document text status = TooSlowAnswer document text status ⊎ RoundedAnswer document text status
