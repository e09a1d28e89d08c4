-- What a run of the program does, by its status.
use Rattle.std.specs.Prelude.{◌≡◌, ◌≢◌, ℕ, ◌+◌, ◌<◌, ◌≤◌, ◌⊎◌, List, length, Option}
use Rattle.std.specs.Io.KnownBytes.{Appends, Consumes, IsAtEnd}
use Rattle.base.specs.declared.limits.TheConstants.{MAX_INPUT}
use Rattle.base.specs.declared.status.Status.{Status}
use Rattle.base.specs.declared.status.Status.TheVariants as statuses
use Rattle.yds_model.specs.Request.{Request}
use Rattle.yds_model.specs.Answer.{AnswersRequest, too_long_line}
use Rattle.yds_port.specs.Count.{Rose, next_count}
use Rattle.yds_port.specs.Sink.{AppendsFront, IsFlushed}

-- a status of a run that wrote its answer whole
abbrev pub IsWhole : Status → Type 0
IsWhole statuses.ReadFault = ⊥
IsWhole statuses.WriteFault = ⊥
IsWhole statuses.Memory = ⊥
IsWhole _ = Unit {0}

-- The count of faults tells this status from the others: where the run ended so the count rose, and where the count grew the run
-- ended so.
pub record CountTells (fault result : Status) (before now : ℕ) : Type 0 where
  pub later : before ≤ now
  pub counted : result ≡ fault → Rose before now
  pub told : before < now → result ≡ fault

-- the text was written whole and flushed, and the run ended with the text's status
pub record WritesWhole (ended : Status) (text : List ℕ) (status : Status) (old new : Option (List ℕ)) (flushed : Option ℕ) : Type 0 where
  pub said : status ≡ ended
  pub whole : Appends old new text
  pub all_flushed : IsFlushed new flushed

-- What a run that ended so wrote of the text with this status: all of it, or after a fault a front of it. What was written
-- after a fault of the source, or for want of memory, is a clause of its own.
abbrev pub Outcome : Status → List ℕ → Status → Option (List ℕ) → Option (List ℕ) → Option ℕ → Type 0
Outcome statuses.Memory text status old new flushed = Unit {0}
Outcome statuses.ReadFault text status old new flushed = Unit {0}
Outcome statuses.WriteFault text status old new flushed = AppendsFront text old new
Outcome ended text status old new flushed = WritesWhole ended text status old new flushed

-- what was written is an answer, of those that this says are answers
pub record Writes (Answered : List ℕ → Status → Type 0) (result : Status) (old new : Option (List ℕ)) (flushed : Option ℕ) : Type 0 where
  pub text : List ℕ
  pub status : Status
  pub answers : Answered text status
  pub outcome : Outcome result text status old new flushed

-- An answer was delivered to the sink, whose members stand first: its text was written, whole or up to a counted fault.
pub record IsDelivered {K : Type 0} (written : K → Option (List ℕ)) (flushed : K → Option ℕ) (flushes faults : K → ℕ) (text : List ℕ) (status result : Status) (old new : K) : Type 0 where
  pub whole : IsWhole status
  pub ended : (result ≡ status) ⊎ (result ≡ statuses.WriteFault)
  pub counts : CountTells statuses.WriteFault result (faults old) (faults new)
  pub outcome : Outcome result text status (written old) (written new) (flushed new)
  pub flushed_once : IsWhole result → flushes new ≡ next_count (flushes old)

-- What was asked for, and needs no more reading, was answered to the sink, or memory ran out and the sink is as it was.
pub record Replies {K : Type 0} (written : K → Option (List ℕ)) (flushed : K → Option ℕ) (flushes faults : K → ℕ) (Answered : List ℕ → Status → Type 0) (result : Status) (old new : K) : Type 0 where
  pub no_read_fault : result ≢ statuses.ReadFault
  pub counts : CountTells statuses.WriteFault result (faults old) (faults new)
  pub nothing_written : result ≡ statuses.Memory → new ≡ old
  pub answer : result ≢ statuses.Memory → Writes Answered result (written old) (written new) (flushed new)
  pub flushed_once : IsWhole result → flushes new ≡ next_count (flushes old)

-- what was written is the answer to these bytes
abbrev pub AnswersBytes : Option Request → List ℕ → Status → Option (List ℕ) → Option (List ℕ) → Option ℕ → Type 0
AnswersBytes request bytes result old new flushed = Writes (AnswersRequest request bytes) result old new flushed

-- some bytes were taken, all that were left or one more than an input may have, and what was written is the answer to them
pub record AnswersTaken (request : Option Request) (result : Status) (left rest old new : Option (List ℕ)) (flushed : Option ℕ) : Type 0 where
  pub taken : List ℕ
  pub consumed : Consumes left rest taken
  pub ended : IsAtEnd rest ⊎ (length taken ≡ MAX_INPUT + 1)
  pub answered : AnswersBytes request taken result old new flushed

-- one byte more than an input may have was taken, and the run refused it as too long
pub record IsTooLong (result : Status) (left rest old new : Option (List ℕ)) : Type 0 where
  pub taken : List ℕ
  pub consumed : Consumes left rest taken
  pub beyond : length taken ≡ MAX_INPUT + 1
  pub refused : result ≡ statuses.Refused
  pub written : Appends old new too_long_line
