-- That there is at most one plan. Each law is the contract of a public function of this crate.
use Rattle.std.specs.Prelude.{◌≡◌, ℕ, List, ◌++◌}
use Rattle.yds_model.specs.Job.{Job}
use Rattle.yds_model.specs.Slot.{WrittenSlot, IsScale, slots_at}
use Rattle.yds_model.specs.Level.{Level}
use Rattle.yds_model.specs.Plan.{IsPlan}

-- Two plans of the same jobs have the same levels, with their works, lengths, pieces and members.
abbrev pub LevelsAreOne : Type 0
LevelsAreOne = (jobs : List Job) (slots others : List WrittenSlot) (levels more : List Level) → IsPlan jobs slots levels → IsPlan jobs others more →
    levels ≡ more

-- And the same slots: at each scale of both they are one list. Only their fractions may be spelled otherwise.
abbrev pub SlotsAreOne : Type 0
SlotsAreOne = (jobs : List Job) (slots others : List WrittenSlot) (levels more : List Level) (scale : ℕ) → IsPlan jobs slots levels → IsPlan jobs others more →
    IsScale scale (slots ++ others) → slots_at scale slots ≡ slots_at scale others
