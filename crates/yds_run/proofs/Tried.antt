-- How a run of a trial ends.
use Rattle.yds_model.proofs.Common.{◌≡◌, ◌⊎◌, ℕ, List, Option, inl, inr, refl, sym, ◌∙◌, TrialAnswer}
use Rattle.base.specs.declared.status.Status.{Status}
use Rattle.base.specs.declared.status.Status.TheVariants as statuses
use Rattle.yds_answer.specs.Endings.{Replies}

-- done, or by a fault of the sink, or for want of memory
pub trial_ends : {K : Type 0} (written : K → Option (List ℕ)) (flushed : K → Option ℕ) (flushes faults : K → ℕ) (seed jobs : ℕ) (result : Status) (old new : K)
    → Replies written flushed flushes faults (TrialAnswer seed jobs) result old new
    → (result ≡ statuses.Done) ⊎ (result ≡ statuses.WriteFault) ⊎ (result ≡ statuses.Memory)
trial_ends written flushed flushes faults seed jobs statuses.Done old new replies = inl refl
trial_ends written flushed flushes faults seed jobs statuses.WriteFault old new replies = inr (inl refl)
trial_ends written flushed flushes faults seed jobs statuses.Memory old new replies = inr (inr refl)
trial_ends written flushed flushes faults seed jobs statuses.ReadFault old new replies = absurd (replies.no_read_fault refl)
trial_ends written flushed flushes faults seed jobs statuses.No old new replies =
    let writes = replies.answer (λ is. absurd cc) in
    let is : statuses.No ≡ statuses.Done = sym writes.outcome.said ∙ writes.answers.ended in
    absurd cc
trial_ends written flushed flushes faults seed jobs statuses.Usage old new replies =
    let writes = replies.answer (λ is. absurd cc) in
    let is : statuses.Usage ≡ statuses.Done = sym writes.outcome.said ∙ writes.answers.ended in
    absurd cc
trial_ends written flushed flushes faults seed jobs statuses.Refused old new replies =
    let writes = replies.answer (λ is. absurd cc) in
    let is : statuses.Refused ≡ statuses.Done = sym writes.outcome.said ∙ writes.answers.ended in
    absurd cc
