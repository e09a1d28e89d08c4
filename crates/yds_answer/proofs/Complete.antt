-- From the bytes that were taken to all bytes of the input.
use Rattle.yds_model.proofs.Common.{◌≡◌, ◌⊎◌, ℕ, ◌+◌, ◌<◌, ◌≤◌, List, [], ◌++◌, length, Option, Some, None, refl, subst, sym, ap, ◌∙◌, arith, inl, inr, length-append, lt-ltb, le-ltb, IfSome, append-nil, Question, Request, OfDocument, OfTasks, OfTrial, usage_line, AnswersRequest, AnswersReading, AnswersTasks, UnlessTooLong, is_too_long, reading, task_reading, TrialAnswer}
use Rattle.base.specs.declared.limits.TheConstants.{MAX_INPUT}
use Rattle.base.specs.declared.status.Status.{Status}
use Rattle.base.specs.declared.status.Status.TheVariants as statuses
use Rattle.yds_answer.specs.Endings.{IsWhole, Writes, WritesWhole, AnswersBytes, AnswersTaken, Outcome}

-- what is an answer to one thing and so to another
pub writes_of : (One Other : List ℕ → Status → Type 0) (result : Status) (old new : Option (List ℕ)) (flushed : Option ℕ)
    → ((text : List ℕ) (status : Status) → One text status → Other text status) → Writes One result old new flushed → Writes Other result old new flushed
writes_of One Other result old new flushed weaker writes = record {
  text = writes.text;
  status = writes.status;
  answers = weaker writes.text writes.status writes.answers;
  outcome = writes.outcome;
}

-- an answer to an input that isn't too long
pub short_answer : (Answered : List ℕ → List ℕ → Status → Type 0) (input text : List ℕ) (status : Status) → length input ≤ MAX_INPUT
    → Answered input text status → UnlessTooLong (is_too_long input) (Answered input) text status
short_answer Answered input text status short answers =
    subst (λ long. UnlessTooLong long (Answered input) text status) (sym (le-ltb MAX_INPUT (length input) short)) answers

-- what was written is such an answer
pub short_answers : (Answered : List ℕ → List ℕ → Status → Type 0) (input : List ℕ) (result : Status) (old new : Option (List ℕ)) (flushed : Option ℕ) → length input ≤ MAX_INPUT
    → Writes (Answered input) result old new flushed → Writes (UnlessTooLong (is_too_long input) (Answered input)) result old new flushed
short_answers Answered input result old new flushed short =
    writes_of (Answered input) (UnlessTooLong (is_too_long input) (Answered input)) result old new flushed (λ text status. short_answer Answered input text status short)

-- more bytes than an input may have, and any bytes after them, are refused alike
long_answers : (Answered : List ℕ → List ℕ → Status → Type 0) (taken more text : List ℕ) (status : Status) → MAX_INPUT < length taken
    → UnlessTooLong (is_too_long taken) (Answered taken) text status → UnlessTooLong (is_too_long (taken ++ more)) (Answered (taken ++ more)) text status
long_answers Answered taken more text status beyond answers =
    let long : MAX_INPUT < length (taken ++ more) = omega (arith, length-append taken more) in
    subst (λ long. UnlessTooLong long (Answered (taken ++ more)) text status) (sym (lt-ltb MAX_INPUT (length (taken ++ more)) long))
    (subst (λ long. UnlessTooLong long (Answered taken) text status) (lt-ltb MAX_INPUT (length taken) beyond) answers)

-- so is what is asked for, whatever comes after too many bytes
abbrev RefusesLong : Request → Type 0
RefusesLong request = (taken more text : List ℕ) (status : Status) → MAX_INPUT < length taken
    → AnswersRequest (Some request) taken text status → AnswersRequest (Some request) (taken ++ more) text status

all_taken : (request : Request) (result : Status) (input taken rest : List ℕ) (old new : Option (List ℕ)) (flushed : Option ℕ)
    → RefusesLong request → input ≡ taken ++ rest → (rest ≡ []) ⊎ (length taken ≡ MAX_INPUT + 1)
    → AnswersBytes (Some request) taken result old new flushed → AnswersBytes (Some request) input result old new flushed
all_taken request result input taken rest old new flushed refuses is (inl end) answered =
    let whole : input ≡ taken = is ∙ ap (λ l. taken ++ l) end ∙ append-nil taken in
    subst (λ bytes. AnswersBytes (Some request) bytes result old new flushed) (sym whole) answered
all_taken request result input taken rest old new flushed refuses is (inr long) answered =
    subst (λ bytes. AnswersBytes (Some request) bytes result old new flushed) (sym is)
    (writes_of (AnswersRequest (Some request) taken) (AnswersRequest (Some request) (taken ++ rest)) result old new flushed
    (λ text status answers. refuses taken rest text status (omega arith) answers) answered)

-- the answer to what was taken is the answer to the whole input, where that is told
answers_input : (request : Request) (result : Status) (left rest old new : Option (List ℕ)) (flushed : Option ℕ)
    → RefusesLong request → AnswersTaken (Some request) result left rest old new flushed
    → IfSome left (λ input. AnswersBytes (Some request) input result old new flushed)
answers_input request result None rest old new flushed refuses answered = tt
answers_input request result (Some input) None old new flushed refuses answered = absurd answered.consumed
answers_input request result (Some input) (Some rest) old new flushed refuses answered =
    all_taken request result input answered.taken rest old new flushed refuses answered.consumed answered.ended answered.answered

-- so it is, where the words ask for it
input_completes : (named : Option Request) (request : Request) (result : Status) (left rest old new : Option (List ℕ)) (flushed : Option ℕ)
    → RefusesLong request → Some request ≡ named → AnswersTaken (Some request) result left rest old new flushed
    → IfSome left (λ input. AnswersBytes named input result old new flushed)
input_completes named request result left rest old new flushed refuses is taken =
    subst (λ asks. IfSome left (λ input. AnswersBytes asks input result old new flushed)) is (answers_input request result left rest old new flushed refuses taken)

pub question_completes : (named : Option Request) (question : Question) (result : Status) (left rest old new : Option (List ℕ)) (flushed : Option ℕ)
    → Some (OfDocument question) ≡ named → AnswersTaken (Some (OfDocument question)) result left rest old new flushed
    → IfSome left (λ input. AnswersBytes named input result old new flushed)
question_completes named question result left rest old new flushed is taken =
    input_completes named (OfDocument question) result left rest old new flushed (long_answers (λ input. AnswersReading question (reading input))) is taken

pub tasks_complete : (named : Option Request) (result : Status) (left rest old new : Option (List ℕ)) (flushed : Option ℕ)
    → Some OfTasks ≡ named → AnswersTaken (Some OfTasks) result left rest old new flushed
    → IfSome left (λ input. AnswersBytes named input result old new flushed)
tasks_complete named result left rest old new flushed is taken =
    input_completes named OfTasks result left rest old new flushed (long_answers (λ input. AnswersTasks (task_reading input))) is taken

-- a trial's answer is the answer to each input
pub trial_answers : (named : Option Request) (seed jobs : ℕ) (result : Status) (old new : Option (List ℕ)) (flushed : Option ℕ) → Some (OfTrial seed jobs) ≡ named
    → Writes (TrialAnswer seed jobs) result old new flushed → (input : List ℕ) → AnswersBytes named input result old new flushed
trial_answers named seed jobs result old new flushed is writes input = subst (λ asks. AnswersBytes asks input result old new flushed) is writes

-- so is the usage line, to words that ask for nothing
pub usage_answers : (named : Option Request) (result : Status) (old new : Option (List ℕ)) (flushed : Option ℕ) → None ≡ named
    → Outcome result usage_line statuses.Usage old new flushed → (input : List ℕ) → AnswersBytes named input result old new flushed
usage_answers named result old new flushed is outcome input = subst (λ asks. AnswersBytes asks input result old new flushed) is (record {
  text = usage_line;
  status = statuses.Usage;
  answers = record { said = refl; ended = refl };
  outcome = outcome;
})

-- what a run that ended whole wrote is the whole text
pub whole_outcome : (ended : Status) (text : List ℕ) (status : Status) (old new : Option (List ℕ)) (flushed : Option ℕ) → IsWhole ended
    → Outcome ended text status old new flushed → WritesWhole ended text status old new flushed
whole_outcome statuses.Done text status old new flushed whole outcome = outcome
whole_outcome statuses.No text status old new flushed whole outcome = outcome
whole_outcome statuses.Usage text status old new flushed whole outcome = outcome
whole_outcome statuses.Refused text status old new flushed whole outcome = outcome
whole_outcome statuses.ReadFault text status old new flushed whole outcome = absurd whole
whole_outcome statuses.WriteFault text status old new flushed whole outcome = absurd whole
whole_outcome statuses.Memory text status old new flushed whole outcome = absurd whole
