-- What is told of a cause is told of one with the same text and status.
use Rattle.base.proofs.Common.{◌≡◌, ℕ, List, Option, subst}
use Rattle.yds_trace_cli.specs.Telling.{Tells}

pub told_as : (text same_text : List ℕ) (code same_code ended : ℕ) (old new : Option (List ℕ)) (flushed : Option ℕ) (faults_before faults_now : ℕ) → text ≡ same_text → code ≡ same_code
    → Tells text code ended old new flushed faults_before faults_now → Tells same_text same_code ended old new flushed faults_before faults_now
told_as text same_text code same_code ended old new flushed faults_before faults_now text_is code_is tells =
    subst (λ (one : List ℕ). Tells one same_code ended old new flushed faults_before faults_now) text_is
    (subst (λ (one : ℕ). Tells text one ended old new flushed faults_before faults_now) code_is tells)
