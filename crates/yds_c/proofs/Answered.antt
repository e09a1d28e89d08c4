-- A text that was written whole into a sink that was empty is an answer.
use Rattle.yds_model.proofs.Common.{◌≡◌, ◌≢◌, ◌++◌, ℕ, List, [], Some, None, ap, refl, subst, sym, ◌∙◌, AnswersRequest}
use Rattle.base.specs.declared.status.Status.{Status}
use Rattle.base.specs.declared.status.Status.TheVariants as statuses
use Rattle.yds_words.specs.Words.{asked}
use Rattle.yds_answer.specs.Endings.{IsWhole, Writes, WritesWhole}
use Rattle.yds_answer.proofs.Complete.{whole_outcome}
use Rattle.yds_run.proofs.Worth.{answers_are_worth}
use Rattle.yds_c.specs.Answered.{IsAnswer}

-- a text that was written whole into a sink that was empty
pub whole_is_answer : (words : List (List ℕ)) (input old written : List ℕ) (result : Status) → old ≡ [] → IsWhole result
    → Writes (AnswersRequest (asked words) input) result (Some old) (Some written) None → IsAnswer words input written result
whole_is_answer words input old written result empty whole writes =
    let outcome : WritesWhole result writes.text writes.status (Some old) (Some written) None =
    whole_outcome result writes.text writes.status (Some old) (Some written) None whole writes.outcome in
    let same : written ≡ writes.text = outcome.whole ∙ ap (λ front. front ++ writes.text) empty in
    let answers : AnswersRequest (asked words) input written result =
    subst (AnswersRequest (asked words) input written) outcome.said (subst (λ told. AnswersRequest (asked words) input told writes.status) (sym same) writes.answers) in
    record { answers = answers; whole = whole; worth = answers_are_worth words input written result answers }

-- a run that ended by no fault and had its memory wrote its text whole
pub ended_whole : (result : Status) → result ≢ statuses.ReadFault → result ≢ statuses.WriteFault → result ≢ statuses.Memory → IsWhole result
ended_whole statuses.Done read write memory = tt
ended_whole statuses.No read write memory = tt
ended_whole statuses.Usage read write memory = tt
ended_whole statuses.Refused read write memory = tt
ended_whole statuses.ReadFault read write memory = absurd (read refl)
ended_whole statuses.WriteFault read write memory = absurd (write refl)
ended_whole statuses.Memory read write memory = absurd (memory refl)
