-- What the answer of `plan` is worth, as laws of the relation of words, input, text and status: the headline, which is what a reader
-- wants to know of such a text.
use Rattle.std.specs.Prelude.{◌≡◌, ℕ, ◌≤◌, List, [], ◌∷◌, length, codes, Ok}
use Rattle.base.specs.declared.limits.TheConstants.{MAX_INPUT}
use Rattle.base.specs.declared.status.Status.TheVariants.{Done}
use Rattle.yds_model.specs.Slot.{WrittenSlot}
use Rattle.yds_model.specs.Level.{Level}
use Rattle.yds_model.specs.Feasible.{IsFeasible}
use Rattle.yds_model.specs.Excess.{IsLeast}
use Rattle.yds_model.specs.Explains.{Explains}
use Rattle.yds_model.specs.Proper.{IsProper}
use Rattle.yds_model.specs.Document.{Document}
use Rattle.yds_model.specs.Text.{canonical_text}
use Rattle.yds_model.specs.Reading.{reading}
use Rattle.yds_model.specs.PlanAnswer.{with_plan}
use Rattle.yds_model.specs.Answer.{Answers}
use Rattle.yds_energy.specs.EnergyLaws.{IsCheapest}

-- The headline: the input is a document; what was written may be an input, and is read again as a document with the same jobs and points.
-- Its slots give every job its work inside its window and, for every speed, do no more work above it than any feasible schedule, as
-- the written levels show. By every convex table of points they take no more energy than any feasible schedule.
pub record Headline (input text : List ℕ) (document : Document) (slots : List WrittenSlot) (levels : List Level) : Type 0 where
  pub read : reading input ≡ Ok document
  pub written : text ≡ canonical_text (with_plan document slots levels)
  pub short : length text ≤ MAX_INPUT
  pub read_again : reading text ≡ Ok (with_plan document slots levels)
  pub feasible : IsFeasible document.jobs slots
  pub least : IsLeast document.jobs slots
  pub proper : IsProper document.jobs slots levels
  pub explained : Explains document.jobs slots levels
  pub cheapest : IsCheapest document.jobs slots

abbrev pub HoldsHeadline : List ℕ → List ℕ → Type 0
HoldsHeadline input text = (document : Document) × (slots : List WrittenSlot) × (levels : List Level) × Headline input text document slots levels

-- The text that `plan` writes holds the headline.
abbrev pub PlansHoldTheHeadline : Type 0
PlansHoldTheHeadline = (input text : List ℕ) → Answers (codes "plan" ∷ []) input text Done → HoldsHeadline input text

-- `audit` answers it with 'feasible'.
abbrev pub PlansAreFeasible : Type 0
PlansAreFeasible = (input text : List ℕ) → Answers (codes "plan" ∷ []) input text Done →
    Answers (codes "audit" ∷ []) text (codes "feasible\n") Done

-- `check` answers it with 'accepted'.
abbrev pub PlansAreAccepted : Type 0
PlansAreAccepted = (input text : List ℕ) → Answers (codes "plan" ∷ []) input text Done →
    Answers (codes "check" ∷ []) text (codes "accepted\n") Done
