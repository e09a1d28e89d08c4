-- The answer to an input that isn't refused, and what `audit` answers to a text that is read as a document.
use Rattle.yds_model.proofs.Common.{◌≡◌, ℕ, ◌*◌, ◌≤◌, Bool, true, false, List, [], ◌∷◌, length, Some, Result, Ok, Err, refl, arith, codes, le-ltb, all_pieces, all_members, Point, IsFeasible, AreSlots, Feasible, Document, Fault, reading, IsDocument, IsTextOf, Question, AskAudit, OfDocument, OnPoints, AnswersQuestion, AnswersReading, UnlessTooLong, is_too_long, AnswersRequest}
use Rattle.model_lemmas.proofs.Verdicts.{verdict_is_exact}
use Rattle.base.specs.declared.limits.TheConstants.{MAX_INPUT, MAX_JOBS}
use Rattle.yds_model.specs.declared.reason.Reason.{Reason}
use Rattle.base.specs.declared.status.Status.{Status}
use Rattle.base.specs.declared.status.Status.TheVariants.{Done, No, Refused}
use Rattle.yds_texts.proofs.RoundTrip.{printed_is_read}
use Rattle.yds_texts.proofs.Short.{text_is_short}
use Rattle.yds_texts.proofs.Within.{read_is_within_limits}

-- # What isn't refused

-- what is done is no 'no', and neither is refused
pub done_not_no : Done ≡ No → ⊥
done_not_no same = absurd cc

pub done_not_refused : Done ≡ Refused → ⊥
done_not_refused same = absurd cc

pub no_not_refused : No ≡ Refused → ⊥
no_not_refused same = absurd cc

-- what isn't refused wasn't too long
pub not_too_long : (Answered : List ℕ → Status → Type 0) (text : List ℕ) (status : Status) (long : Bool) → (status ≡ Refused → ⊥) →
    UnlessTooLong long Answered text status → Answered text status
not_too_long Answered text status true other answers = absurd (other answers.ended)
not_too_long Answered text status false other answers = answers

-- the answer to a question about a document
pub record IsAnswered (question : Question) (input text : List ℕ) (status : Status) : Type 0 where
  pub document : Document
  pub read : reading input ≡ Ok document
  pub answers : AnswersQuestion question document text status

-- it was read as a document
answered_reading : (question : Question) (input text : List ℕ) (status : Status) (read : Result Document (Fault Reason)) → (status ≡ Refused → ⊥) →
    reading input ≡ read → AnswersReading question read text status → IsAnswered question input text status
answered_reading question input text status (Ok document) other is answers = record { document = document; read = is; answers = answers }
answered_reading question input text status (Err fault) other is answers = absurd (other answers.ended)

-- so a question has an answer where it isn't refused
pub answered : (question : Question) (input text : List ℕ) (status : Status) → (status ≡ Refused → ⊥) → AnswersRequest (Some (OfDocument question)) input text status →
    IsAnswered question input text status
answered question input text status other answers =
    answered_reading question input text status (reading input) other refl
    (not_too_long (AnswersReading question (reading input)) text status (is_too_long input) other answers)

-- and one that asks for points has some
pub on_points : (Answered : List ℕ → Status → Type 0) (points : List Point) (text : List ℕ) (status : Status) → (status ≡ Refused → ⊥) →
    OnPoints Answered points text status → (1 ≤ length points) × Answered text status
on_points Answered [] text status other answers = absurd (other answers.ended)
on_points Answered (point ∷ points) text status other answers = (omega arith, answers)

-- # Texts that are read again

-- a text that may be an input, and is read as the document
pub record IsReadAs (document : Document) (text : List ℕ) : Type 0 where
  pub short : length text ≤ MAX_INPUT
  pub read_again : reading text ≡ Ok document

-- the text of a document of few parts is one
pub text_read : (document : Document) (text : List ℕ) → IsTextOf document text → length document.slots ≤ 5 * MAX_JOBS → length document.levels ≤ MAX_JOBS →
    length (all_pieces document.levels) ≤ 3 * MAX_JOBS → length (all_members document.levels) ≤ MAX_JOBS → IsReadAs document text
text_read document text said few_slots few_levels few_pieces few_members = grind (arith, printed_is_read, text_is_short)

-- # What `audit` answers

-- the slots of a document within the limits are as the auditor wants them
pub slots_agree : (document : Document) → IsDocument document → AreSlots (length document.jobs) document.slots
slots_agree document fits = grind arith

-- the answer to a text that is short and read as a document
pub answers_document : (question : Question) (text told : List ℕ) (document : Document) → length text ≤ MAX_INPUT → reading text ≡ Ok document →
    AnswersReading question (Ok document) told Done → UnlessTooLong (is_too_long text) (AnswersReading question (reading text)) told Done
answers_document question text told document short read answers =
    rw (le-ltb MAX_INPUT (length text) short, read) answers

-- it is 'feasible' where the document's slots are
pub audited : (text : List ℕ) (document : Document) → length text ≤ MAX_INPUT → reading text ≡ Ok document → IsFeasible document.jobs document.slots →
    AnswersRequest (Some (OfDocument AskAudit)) text (codes "feasible\n") Done
audited text document short read feasible =
    answers_document AskAudit text (codes "feasible\n") document short read record {
      verdict = Feasible;
      is_verdict = (verdict_is_exact document.jobs document.slots (slots_agree document (read_is_within_limits text document read))).1 feasible;
      said = refl;
      ended = refl;
    }
