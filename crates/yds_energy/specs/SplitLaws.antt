-- The law of stretches that are split between two points of a table. It is the contract of a public function of this crate.
use Rattle.std.specs.Prelude.{ℕ, List, ◌++◌}
use Rattle.yds_model.specs.Slot.{WrittenSlot, IsScale, AtEachScale, slots_at}
use Rattle.yds_model.specs.Piece.{Piece}
use Rattle.yds_model.specs.Level.{Level}
use Rattle.yds_model.specs.Table.{Point}
use Rattle.yds_model.specs.Rounding.{IsSplitAt}

-- Rounding: slots that are a split at one scale of the planned and the written ones are so at each.
abbrev pub OneScaleDecidesSplit : Type 0
OneScaleDecidesSplit = (level : Level) (low high : Point) (stretch : Piece) (planned fast slow : List WrittenSlot) (scale : ℕ) →
    IsScale scale (planned ++ fast ++ slow) →
    IsSplitAt scale level low high stretch (slots_at scale planned) (slots_at scale fast) (slots_at scale slow) →
    AtEachScale (planned ++ fast ++ slow) (λ scale whole.
    IsSplitAt scale level low high stretch (slots_at scale planned) (slots_at scale fast) (slots_at scale slow))
