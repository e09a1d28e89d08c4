-- The laws of what schedules spend on a table's points, stretch by stretch. Each is the contract of a public function of this crate.
use Rattle.std.specs.Prelude.{◌≡◌, ℕ, List}
use Rattle.std.specs.List.{All}
use Rattle.yds_model.specs.Job.{Job, IsJob}
use Rattle.yds_model.specs.Scale.{Fraction, IsAtMost}
use Rattle.yds_model.specs.Slot.{WrittenSlot, WholeSlot, AtEachScale}
use Rattle.yds_model.specs.Piece.{Piece}
use Rattle.yds_model.specs.Level.{Level}
use Rattle.yds_model.specs.Plan.{IsPlan}
use Rattle.yds_model.specs.Table.{Point, IsTable}
use Rattle.yds_model.specs.Policy.{IsRunAt}
use Rattle.yds_model.specs.Rounding.{IsRounding}
use Rattle.yds_model.specs.Comparison.{Spent, IsSpent, HoldsAll}

-- What a plan spends is the energy of a plan's rounded slots: the very fraction, whichever plans of the same jobs the two are.
abbrev pub PlanSpendsItsRounding : Type 0
PlanSpendsItsRounding = (jobs : List Job) (points : List Point) (planned others : List WrittenSlot) (levels other_levels : List Level) (spent : Spent)
    (written : List WrittenSlot) (energy : Fraction) → All IsJob jobs → IsTable points → IsPlan jobs planned levels → IsSpent jobs points planned spent →
    IsPlan jobs others other_levels → IsRounding jobs points others other_levels written energy → spent.energy ≡ energy

-- A plan spends no more than the run of any policy, whatever it sets for each stretch, where the top point is fast enough for that.
abbrev pub PlanSpendsLeast : Type 0
PlanSpendsLeast = (jobs : List Job) (points : List Point) (planned : List WrittenSlot) (levels : List Level) (spent : Spent) (grid : ℕ)
    (capacity : ℕ → List WholeSlot → Piece → ℕ) (slots : List WrittenSlot) (other : Spent) → IsTable points → IsPlan jobs planned levels →
    IsSpent jobs points planned spent → AtEachScale slots (λ scale whole. IsRunAt jobs grid scale (capacity scale whole) whole) → HoldsAll jobs points slots other →
    IsAtMost spent.energy other.energy
