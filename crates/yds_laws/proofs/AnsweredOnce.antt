-- The answers of `audit` and of `check` are the only ones, since verdicts and judgements are.
use Rattle.yds_model.proofs.Common.{◌≡◌, ℕ, List, [], ◌∷◌, Some, None, Option, Result, Ok, Err, Bool, true, false, sym, ap, ◌∙◌, Point, line, Document, Fault, reading, AuditAnswer, CheckAnswer, verdict_words, verdict_status, judgement_words, judgement_status, Question, AskAudit, AskAuditOnPoints, AskCheck, OnPoints, AnswersQuestion, AnswersReading, UnlessTooLong, is_too_long}
use Rattle.model_lemmas.proofs.OneVerdict.{verdict_is_unique}
use Rattle.yds_model.specs.declared.reason.Reason.{Reason}
use Rattle.base.specs.declared.status.Status.{Status}
use Rattle.yds_model.specs.Answer.{Says}
use Rattle.yds_laws.specs.AnswerLaws.{AuditAndCheckAnswerOnce}
use Rattle.yds_laws.proofs.OneJudgement.{judgement_is_unique}

-- there is at most one text and status of which this is so
abbrev Once : (List ℕ → Status → Type 0) → Type 0
Once Answered = (text other : List ℕ) (status end : Status) → Answered text status → Answered other end → (text ≡ other) × (status ≡ end)

-- a text that is told
says_once : (wanted : List ℕ) (ended : Status) → Once (Says wanted ended)
says_once wanted ended text other status end first second = (first.said ∙ sym second.said, first.ended ∙ sym second.ended)

-- the line of a verdict, which is the only one
audit_once : (document : Document) (table : Option (List Point)) → Once (AuditAnswer document table)
audit_once document table text other status end first second =
    let same = verdict_is_unique document.jobs table document.slots first.verdict second.verdict first.is_verdict second.is_verdict in (
      first.said ∙ ap (λ verdict. line (verdict_words document verdict)) same ∙ sym second.said,
      first.ended ∙ ap verdict_status same ∙ sym second.ended,
    )

-- the line of a judgement
check_once : (document : Document) → Once (CheckAnswer document)
check_once document text other status end first second =
    let same = judgement_is_unique document.jobs document.slots document.levels first.judgement second.judgement first.is_judgement second.is_judgement in (
      first.said ∙ ap (λ judgement. line (judgement_words document judgement)) same ∙ sym second.said,
      first.ended ∙ ap judgement_status same ∙ sym second.ended,
    )

-- where points are needed
points_once : (Answered : List ℕ → Status → Type 0) (points : List Point) → Once Answered → Once (OnPoints Answered points)
points_once Answered [] once text other status end first second = says_once _ _ text other status end first second
points_once Answered (point ∷ points) once text other status end first second = once text other status end first second

-- what is read is answered once, and so is a fault
reading_once : (question : Question) (read : Result Document (Fault Reason)) → ((document : Document) → Once (AnswersQuestion question document)) →
    Once (AnswersReading question read)
reading_once question (Ok document) once text other status end first second = once document text other status end first second
reading_once question (Err fault) once text other status end first second = says_once _ _ text other status end first second

-- and an input that is too long
input_once : (question : Question) (long : Bool) (input : List ℕ) → ((document : Document) → Once (AnswersQuestion question document)) →
    Once (UnlessTooLong long (AnswersReading question (reading input)))
input_once question true input once text other status end first second = says_once _ _ text other status end first second
input_once question false input once text other status end first second = reading_once question (reading input) once text other status end first second

-- the law
pub audit_and_check_answer_once : AuditAndCheckAnswerOnce
audit_and_check_answer_once = record {
  audit = λ input. input_once AskAudit (is_too_long input) input (λ document. audit_once document None);
  audit_on_points = λ input. input_once AskAuditOnPoints (is_too_long input) input (λ document.
      points_once (AuditAnswer document (Some document.points)) document.points (audit_once document (Some document.points)));
  check = λ input. input_once AskCheck (is_too_long input) input check_once;
}
