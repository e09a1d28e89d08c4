-- That a policy's run is one. Each law is the contract of a public function of this crate.
use Rattle.std.specs.Prelude.{◌≡◌, ℕ, List, Some, ◌++◌}
use Rattle.yds_model.specs.Job.{Job}
use Rattle.yds_model.specs.Slot.{WrittenSlot, IsScale, slots_at}
use Rattle.yds_model.specs.AverageRate.{IsAverageRateRun}
use Rattle.yds_model.specs.OptimalAvailable.{IsOptimalAvailableRun}
use Rattle.yds_model.specs.Request.{AskAverageRate, AskOptimalAvailable, AskCompare, AskAdmit, OfDocument, request_of}
use Rattle.yds_laws.specs.AnswerLaws.{AnswerOnce}

-- Two runs of a policy for the same jobs on the same grid rounded as often, and have at each scale the same slots.
pub record RunsAreOne : Type 0 where
  pub average_rate : (jobs : List Job) (grid rounded others_rounded scale : ℕ) (slots others : List WrittenSlot) → IsAverageRateRun jobs grid rounded slots →
      IsAverageRateRun jobs grid others_rounded others → IsScale scale (slots ++ others) → (rounded ≡ others_rounded) × (slots_at scale slots ≡ slots_at scale others)
  pub optimal_available : (jobs : List Job) (grid rounded others_rounded scale : ℕ) (slots others : List WrittenSlot) → IsOptimalAvailableRun jobs grid rounded slots →
      IsOptimalAvailableRun jobs grid others_rounded others → IsScale scale (slots ++ others) → (rounded ≡ others_rounded) × (slots_at scale slots ≡ slots_at scale others)

-- To each input `avr`, `oa`, `compare` and `admit` have one text and status.
pub record RunsAnswerOnce : Type 0 where
  pub average_rate : (words : List (List ℕ)) (grid : ℕ) → request_of words ≡ Some (OfDocument (AskAverageRate grid)) → AnswerOnce words
  pub optimal_available : (words : List (List ℕ)) (grid : ℕ) → request_of words ≡ Some (OfDocument (AskOptimalAvailable grid)) → AnswerOnce words
  pub compare : (words : List (List ℕ)) (grid : ℕ) → request_of words ≡ Some (OfDocument (AskCompare grid)) → AnswerOnce words
  pub admit : (words : List (List ℕ)) (top : ℕ) → request_of words ≡ Some (OfDocument (AskAdmit top)) → AnswerOnce words
