-- From an answer that was delivered to what was asked for.
use Rattle.yds_model.proofs.Common.{◌≡◌, ◌≢◌, ◌⊎◌, ℕ, List, Option, Result, Ok, Err, inl, inr, subst, sym, ap, arith, ◌∙◌, IfOk, MatchResult}
use Rattle.base.specs.declared.status.Status.{Status}
use Rattle.base.specs.declared.status.Status.TheVariants as statuses
use Rattle.yds_answer.specs.Endings.{IsWhole, IsDelivered, Replies}
use Rattle.yds_answer.proofs.Complete.{writes_of}

-- a run that delivered an answer ended as the answer does, or by a fault of the sink
ends_whole : (status result other : Status) → IsWhole status → (result ≡ status) ⊎ (result ≡ statuses.WriteFault)
    → (IsWhole other → ⊥) → other ≢ statuses.WriteFault → result ≢ other
ends_whole status result other whole ended broken no_fault is =
    elim ended [
      | inl e ↦ absurd (broken (subst IsWhole (sym e ∙ is) whole))
      | inr e ↦ absurd (no_fault (sym is ∙ e))
    ]

-- an answer that is one of those that were asked for
pub delivered_replies : {K : Type 0} (written : K → Option (List ℕ)) (flushed : K → Option ℕ) (flushes faults : K → ℕ) (Answered : List ℕ → Status → Type 0)
    (text : List ℕ) (status result : Status) (old new : K)
    → Answered text status → IsDelivered written flushed flushes faults text status result old new → Replies written flushed flushes faults Answered result old new
delivered_replies written flushed flushes faults Answered text status result old new answers delivered = record {
  no_read_fault = ends_whole status result statuses.ReadFault delivered.whole delivered.ended (λ broken. broken) (λ is. absurd cc);
  counts = delivered.counts;
  nothing_written = λ memory. absurd (ends_whole status result statuses.Memory delivered.whole delivered.ended (λ broken. broken) (λ is. absurd cc) memory);
  answer = λ memory. record { text = text; status = status; answers = answers; outcome = delivered.outcome };
  flushed_once = delivered.flushed_once;
}

-- the same of an answer for which memory may want
pub made_replies : {K A E : Type 0} (written : K → Option (List ℕ)) (flushed : K → Option ℕ) (flushes faults : K → ℕ) (Answered : List ℕ → Status → Type 0)
    (text_of : A → List ℕ) (status_of : A → Status) (made : Result A E) (result : Status) (old new : K)
    → IfOk made (λ answer. Answered (text_of answer) (status_of answer))
    → MatchResult made (λ answer. IsDelivered written flushed flushes faults (text_of answer) (status_of answer) result old new) (λ error. (result ≡ statuses.Memory) × (new ≡ old))
    → Replies written flushed flushes faults Answered result old new
made_replies written flushed flushes faults Answered text_of status_of (Ok answer) result old new answers delivered =
    delivered_replies written flushed flushes faults Answered (text_of answer) (status_of answer) result old new answers delivered
made_replies written flushed flushes faults Answered text_of status_of (Err error) result old new answers wanting = record {
  no_read_fault = λ is. absurd cc;
  counts = record {
    later = omega (arith, ap faults wanting.1);
    counted = λ is. absurd cc;
    told = λ grown. absurd (omega (arith, ap faults wanting.1));
  };
  nothing_written = λ memory. wanting.1;
  answer = λ memory. absurd (memory wanting.0);
  flushed_once = λ whole. absurd (subst IsWhole wanting.0 whole);
}

-- what replies to one thing and so to another
pub replies_of : {K : Type 0} (written : K → Option (List ℕ)) (flushed : K → Option ℕ) (flushes faults : K → ℕ) (One Other : List ℕ → Status → Type 0) (result : Status) (old new : K)
    → ((text : List ℕ) (status : Status) → One text status → Other text status) → Replies written flushed flushes faults One result old new → Replies written flushed flushes faults Other result old new
replies_of written flushed flushes faults One Other result old new weaker replies = record {
  no_read_fault = replies.no_read_fault;
  counts = replies.counts;
  nothing_written = replies.nothing_written;
  answer = λ memory. writes_of One Other result (written old) (written new) (flushed new) weaker (replies.answer memory);
  flushed_once = replies.flushed_once;
}
