-- What the answer of `admit` is worth, as laws of the relation of words, input, text and status.
use Rattle.std.specs.Prelude.{◌≡◌, ℕ, ◌≤◌, List, [], ◌∷◌, ◌++◌, length, codes, Some, Ok}
use Rattle.std.specs.List.{All, flat_map}
use Rattle.base.specs.declared.limits.TheConstants.{MAX_INPUT}
use Rattle.base.specs.declared.status.Status.TheVariants.{Done}
use Rattle.yds_model.specs.Slot.{WrittenSlot, AtEachScale}
use Rattle.yds_model.specs.Feasible.{IsFeasible}
use Rattle.yds_model.specs.Admission.{IsWithinTop, jobs_with, Refusal, IsAdmission, IsAdmittedRun}
use Rattle.yds_laws.specs.AdmissionLaws.{IsForced}
use Rattle.yds_model.specs.Document.{Document}
use Rattle.yds_model.specs.Text.{canonical_text}
use Rattle.yds_model.specs.AdmitAnswer.{with_taken, refusal_comment}
use Rattle.yds_model.specs.Reading.{reading}
use Rattle.yds_model.specs.Request.{AskAdmit, OfDocument, request_of}
use Rattle.yds_model.specs.Answer.{Answers}

-- An admission that can be relied on: the input is a document, of whose jobs these are taken and the others refused, each with its
-- interval. What was written may be an input, and is read again as a document of the taken jobs and the points. Its slots are the
-- taken jobs' run, earliest deadline first; they give each of those jobs its work inside its window, and none is faster than the top speed.
-- Each refusal is forced by its interval.
pub record ReadAdmission (top : ℕ) (input text : List ℕ) (document : Document) (taken : List ℕ) (refused : List Refusal) (slots : List WrittenSlot) : Type 0 where
  pub read : reading input ≡ Ok document
  pub admission : IsAdmission document.jobs top taken refused
  pub written : text ≡ canonical_text (with_taken document taken slots) ++ flat_map (refusal_comment document top) refused
  pub short : length text ≤ MAX_INPUT
  pub read_again : reading text ≡ Ok (with_taken document taken slots)
  pub run : IsAdmittedRun (jobs_with document.jobs taken) top slots
  pub feasible : IsFeasible (jobs_with document.jobs taken) slots
  pub within_top : AtEachScale slots (λ scale whole. All (IsWithinTop top) whole)
  pub forced : All (IsForced document.jobs top taken) refused

abbrev pub HoldsAdmission : ℕ → List ℕ → List ℕ → Type 0
HoldsAdmission top input text =
    (document : Document) × (taken : List ℕ) × (refused : List Refusal) × (slots : List WrittenSlot) × ReadAdmission top input text document taken refused slots

-- The text that `admit TOP` writes where it is done holds such an admission.
abbrev pub AdmissionsAreRead : Type 0
AdmissionsAreRead = (words : List (List ℕ)) (top : ℕ) → request_of words ≡ Some (OfDocument (AskAdmit top)) → (input text : List ℕ) →
    Answers words input text Done → HoldsAdmission top input text

-- `audit` answers it with 'feasible'.
abbrev pub AdmissionsAreFeasible : Type 0
AdmissionsAreFeasible = (words : List (List ℕ)) (top : ℕ) → request_of words ≡ Some (OfDocument (AskAdmit top)) → (input text : List ℕ) →
    Answers words input text Done → Answers (codes "audit" ∷ []) text (codes "feasible\n") Done
