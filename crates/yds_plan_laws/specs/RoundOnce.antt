-- That a plan is rounded in one way. Each law is the contract of a public function of this crate.
use Rattle.std.specs.Prelude.{◌≡◌, List, [], ◌∷◌, codes}
use Rattle.std.specs.List.{All}
use Rattle.yds_model.specs.Job.{Job}
use Rattle.yds_model.specs.Scale.{Fraction}
use Rattle.yds_model.specs.Slot.{WrittenSlot}
use Rattle.yds_model.specs.Table.{Point, IsTable}
use Rattle.yds_model.specs.Level.{Level}
use Rattle.yds_model.specs.Plan.{IsPlan}
use Rattle.yds_model.specs.Rounding.{IsRounding}
use Rattle.yds_model.specs.Within.{IsSlot}
use Rattle.yds_laws.specs.AnswerLaws.{AnswerOnce}

-- Plans of the same jobs, rounded to the same points, have the same slots, as a document keeps them, and the same energy.
abbrev pub RoundingsAreOne : Type 0
RoundingsAreOne = (jobs : List Job) (points : List Point) (planned others : List WrittenSlot) (levels more : List Level) (written made : List WrittenSlot)
    (energy other : Fraction) → IsTable points → IsPlan jobs planned levels → IsPlan jobs others more → IsRounding jobs points planned levels written energy →
    IsRounding jobs points others more made other → All IsSlot written → All IsSlot made →
    (written ≡ made) × (energy ≡ other)

-- To each input `round` has one text and status.
abbrev pub RoundAnswersOnce : Type 0
RoundAnswersOnce = AnswerOnce (codes "round" ∷ [])
