-- The answer to a question that is known by another name.
use Rattle.yds_model.proofs.Common.{◌≡◌, ℕ, List, Option, subst, sym, Document, AnswersQuestion}
use Rattle.base.specs.declared.status.Status.{Status}
use Rattle.yds_words.specs.declared.command.Question.{Question}
use Rattle.yds_words.specs.Words.{question_view}
use Rattle.yds_answer.specs.Endings.{Replies}

pub question_replies : {K : Type 0} (written : K → Option (List ℕ)) (flushed : K → Option ℕ) (flushes faults : K → ℕ) (document : Document) (question other : Question) (result : Status) (old new : K)
    → question ≡ other → Replies written flushed flushes faults (AnswersQuestion (question_view other) document) result old new
    → Replies written flushed flushes faults (AnswersQuestion (question_view question) document) result old new
question_replies written flushed flushes faults document question other result old new is replies =
    subst (λ asks. Replies written flushed flushes faults (AnswersQuestion (question_view asks) document) result old new) (sym is) replies
