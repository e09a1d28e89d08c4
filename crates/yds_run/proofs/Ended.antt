-- How a question about a document within the limits ends.
use Rattle.yds_model.proofs.Common.{◌≡◌, ℕ, ◌≤◌, List, [], ◌∷◌, length, Option, Some, Ok, refl, subst, sym, ◌∙◌, arith, inl, inr, le-ltb, Verdict, Feasible, Backward, Overlap, Early, Late, OffPoint, WrongWork, Judgement, Accepted, Slots, Pieces, Members, Sums, Order, Window, Speed, verdict_status, judgement_status, AuditAnswer, CheckAnswer, Point, top_of, CanServe, Document, reading, WrittenSlot, Level, RoundAnswer, CompareAnswer, Question, OfDocument, OnPoints, AnswersQuestion, AnswersReading, UnlessTooLong, AnswersRequest, TaskSet, task_reading, AnswersTasks, OfTasks}
use Rattle.base.specs.declared.limits.TheConstants.{MAX_INPUT}
use Rattle.base.specs.declared.status.Status.{Status}
use Rattle.base.specs.declared.status.Status.TheVariants.{Done, No}
use Rattle.yds_model.specs.ExpandAnswer.{ExpandAnswer}
use Rattle.yds_texts.specs.JudgedText.{IsJudged}
use Rattle.yds_texts.specs.RoundText.{TooSlow, HoldsTooSlow}
use Rattle.yds_run.specs.Worth.{IsInputOf}

-- # It is answered as the document

pub answer_about : (question : Question) (document : Document) (input text : List ℕ) (status : Status) → IsInputOf document input
    → AnswersRequest (Some (OfDocument question)) input text status → AnswersQuestion question document text status
answer_about question document input text status given answers =
    subst (λ read. AnswersReading question read text status) given.read
    (subst (λ long. UnlessTooLong long (AnswersReading question (reading input)) text status) (le-ltb MAX_INPUT (length input) given.short) answers)

-- tasks are answered as these tasks
pub answer_of_tasks : (set : TaskSet) (input text : List ℕ) (status : Status) → length input ≤ MAX_INPUT → task_reading input ≡ Ok set
    → AnswersRequest (Some OfTasks) input text status → ExpandAnswer set text status
answer_of_tasks set input text status short read answers =
    subst (λ read. AnswersTasks read text status) read
    (subst (λ long. UnlessTooLong long (AnswersTasks (task_reading input)) text status) (le-ltb MAX_INPUT (length input) short) answers)

-- a question that needs points is answered where there are some
pub answer_on_points : (Answered : List ℕ → Status → Type 0) (points : List Point) (text : List ℕ) (status : Status) → 1 ≤ length points
    → OnPoints Answered points text status → Answered text status
answer_on_points Answered [] text status some answers = absurd (omega (arith, some))
answer_on_points Answered (point ∷ points) text status some answers = answers

-- # It says yes or no

verdict_ends : (verdict : Verdict) → IsJudged (verdict_status verdict)
verdict_ends Feasible = inl refl
verdict_ends (Backward i) = inr refl
verdict_ends (Overlap i) = inr refl
verdict_ends (Early i) = inr refl
verdict_ends (Late i) = inr refl
verdict_ends (OffPoint i) = inr refl
verdict_ends (WrongWork job given wanted) = inr refl

judgement_ends : (judgement : Judgement) → IsJudged (judgement_status judgement)
judgement_ends Accepted = inl refl
judgement_ends (Slots verdict) = inr refl
judgement_ends (Pieces i) = inr refl
judgement_ends (Members job) = inr refl
judgement_ends (Sums i) = inr refl
judgement_ends (Order i) = inr refl
judgement_ends (Window job) = inr refl
judgement_ends (Speed i) = inr refl

pub audit_ends : (document : Document) (table : Option (List Point)) (text : List ℕ) (status : Status) → AuditAnswer document table text status → IsJudged status
audit_ends document table text status answer = subst IsJudged (sym answer.ended) (verdict_ends answer.verdict)

pub check_ends : (document : Document) (text : List ℕ) (status : Status) → CheckAnswer document text status → IsJudged status
check_ends document text status answer = subst IsJudged (sym answer.ended) (judgement_ends answer.judgement)

pub round_ends : (document : Document) (text : List ℕ) (status : Status) → RoundAnswer document text status → IsJudged status
round_ends document text status (inl slow) = inr slow.ended
round_ends document text status (inr rounded) = inl rounded.ended

pub compare_ends : (document : Document) (grid : ℕ) (text : List ℕ) (status : Status) → CompareAnswer document grid text status → IsJudged status
compare_ends document grid text status (inl slow) = inr slow.ended
compare_ends document grid text status (inr compared) = inl compared.ended

-- # And yes where the top point suffices

-- the document is read once
not_too_slow : (document other : Document) (input text : List ℕ) (slots : List WrittenSlot) (levels : List Level) → reading input ≡ Ok document
    → TooSlow input text other slots levels → CanServe (top_of document.points) document.jobs → ⊥
not_too_slow document other input text slots levels read slow served =
    let both = sym read ∙ slow.read in
    let same : document ≡ other = cc in
    slow.unserved (subst (λ (d : Document). CanServe (top_of d.points) d.jobs) same served)

-- so an answer that says no where the points are too slow says yes where they aren't
pub served_ends : (document : Document) (input text : List ℕ) (status : Status) → IsInputOf document input → IsJudged status
    → (status ≡ No → HoldsTooSlow input text) → CanServe (top_of document.points) document.jobs → status ≡ Done
served_ends document input text status given (inl done) slow served = done
served_ends document input text status given (inr unwanted) slow served =
    let is = slow unwanted in
    absurd (not_too_slow document is.0 input text is.1 is.2 given.read is.3 served)
