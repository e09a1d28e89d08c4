-- An answer, and what a call has put of it into the caller's room.
use Rattle.std.specs.Prelude.{◌≡◌, ℕ, List}
use Rattle.base.specs.declared.status.Status.{Status}
use Rattle.yds_model.specs.Answer.{AnswersRequest}
use Rattle.base.specs.Status.{status_code}
use Rattle.yds_words.specs.Words.{asked}
use Rattle.yds_answer.specs.Endings.{IsWhole}
use Rattle.yds_run.specs.Worth.{IsWorth}
use Rattle.yds_c.specs.Put.{IsPut}

-- The text and the status answer the words and all bytes of the input by the definitions. The status is one of a run that wrote its
-- text whole.
pub record IsAnswer (words : List (List ℕ)) (input text : List ℕ) (status : Status) : Type 0 where
  pub answers : AnswersRequest (asked words) input text status
  pub whole : IsWhole status
  pub worth : IsWorth words input text status

-- The answer to the words and to the input: its text was put into the room, and its status returned.
pub record IsAnswered (words : List (List ℕ)) (input : List ℕ) (code : ℕ) (old new : List ℕ) (needed : ℕ) : Type 0 where
  pub text : List ℕ
  pub status : Status
  pub answer : IsAnswer words input text status
  pub returned : code ≡ status_code status
  pub put : IsPut text old new needed

-- the room is as it was, and no byte is told
pub record IsUntouched (old new : List ℕ) (needed : ℕ) : Type 0 where
  pub same : new ≡ old
  pub none : needed ≡ 0
