-- What the answer of `round` is worth, as laws of the relation of words, input, text and status.
use Rattle.std.specs.Prelude.{◌≡◌, ℕ, ◌≤◌, List, [], ◌∷◌, length, codes, decimal, Some, None, Ok}
use Rattle.std.specs.List.{All}
use Rattle.base.specs.declared.limits.TheConstants.{MAX_INPUT}
use Rattle.base.specs.declared.status.Status.TheVariants.{Done, No}
use Rattle.yds_model.specs.Scale.{Fraction}
use Rattle.yds_model.specs.Slot.{WrittenSlot}
use Rattle.yds_model.specs.Feasible.{IsFeasible}
use Rattle.yds_model.specs.Level.{Level, level_at}
use Rattle.yds_model.specs.Plan.{IsPlan}
use Rattle.yds_model.specs.Divisor.{IsLowest}
use Rattle.yds_model.specs.Audit.{IsOnTable}
use Rattle.yds_model.specs.Admission.{CanServe}
use Rattle.yds_model.specs.Rounding.{top_of, IsTooFast, IsEnergyOf}
use Rattle.yds_model.specs.Document.{Document, with_answer}
use Rattle.base.specs.Lines.{line}
use Rattle.yds_model.specs.Text.{canonical_text}
use Rattle.yds_model.specs.Reading.{reading}
use Rattle.yds_model.specs.Answer.{Answers}
use Rattle.yds_energy.specs.RoundingLaws.{IsLeastEnergy}

-- the same jobs and points, with these slots and their energy, and nothing else
abbrev pub with_energy : Document → List WrittenSlot → Fraction → Document
with_energy document slots energy = with_answer document slots [] None (Some energy)

-- Least energy: the input is a document; what was written may be an input, and is read again as a document with the same jobs and
-- points, whose slots give every job its work inside its window, each at the speed of one of the points. The energy that is written,
-- in lowest terms, is what they spend, and no feasible schedule on the points spends less.
pub record LeastEnergy (input text : List ℕ) (document : Document) (slots : List WrittenSlot) (energy : Fraction) : Type 0 where
  pub read : reading input ≡ Ok document
  pub written : text ≡ canonical_text (with_energy document slots energy)
  pub short : length text ≤ MAX_INPUT
  pub read_again : reading text ≡ Ok (with_energy document slots energy)
  pub feasible : IsFeasible document.jobs slots
  pub on_points : All (IsOnTable (Some document.points)) slots
  pub spent : IsEnergyOf document.jobs document.points slots energy
  pub lowest : IsLowest energy
  pub least : IsLeastEnergy document.jobs document.points energy

abbrev pub HoldsLeastEnergy : List ℕ → List ℕ → Type 0
HoldsLeastEnergy input text = (document : Document) × (slots : List WrittenSlot) × (energy : Fraction) × LeastEnergy input text document slots energy

-- The text that `round` writes where it is done holds the least energy.
abbrev pub RoundedHoldsLeastEnergy : Type 0
RoundedHoldsLeastEnergy = (input text : List ℕ) → Answers (codes "round" ∷ []) input text Done → HoldsLeastEnergy input text

-- `audit` answers it with 'feasible', with the points and without.
pub record RoundedIsAudited : Type 0 where
  pub feasible : (input text : List ℕ) → Answers (codes "round" ∷ []) input text Done → Answers (codes "audit" ∷ []) text (codes "feasible\n") Done
  pub on_points : (input text : List ℕ) → Answers (codes "round" ∷ []) input text Done →
      Answers (codes "audit" ∷ codes "--points" ∷ []) text (codes "feasible\n") Done

-- the line of a level that is faster than a top speed
abbrev pub too_slow_line : Level → ℕ → List ℕ
too_slow_line level top =
    line (codes "too-slow" ∷ codes "work" ∷ decimal level.work ∷ codes "length" ∷ decimal level.length ∷ codes "top" ∷ decimal top ∷ [])

-- Too slow: the input is a document whose jobs no schedule serves at or below the speed of its top point. A plan of them has a first level,
-- its fastest; the line says the work and the length of that level, which is faster, and the top.
pub record TooSlow (input text : List ℕ) (document : Document) (slots : List WrittenSlot) (levels : List Level) : Type 0 where
  pub read : reading input ≡ Ok document
  pub plan : IsPlan document.jobs slots levels
  pub some : 1 ≤ length levels
  pub faster : IsTooFast document.points (level_at levels 0)
  pub written : text ≡ too_slow_line (level_at levels 0) (top_of document.points)
  pub unserved : CanServe (top_of document.points) document.jobs → ⊥

abbrev pub HoldsTooSlow : List ℕ → List ℕ → Type 0
HoldsTooSlow input text = (document : Document) × (slots : List WrittenSlot) × (levels : List Level) × TooSlow input text document slots levels

-- Where `round` says no, its text says by which level the table is too slow for the jobs.
abbrev pub RefusedIsTooSlow : Type 0
RefusedIsTooSlow = (input text : List ℕ) → Answers (codes "round" ∷ []) input text No → HoldsTooSlow input text
