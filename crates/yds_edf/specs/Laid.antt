-- What it means that slots are laid out in a stretch, at one speed.
use Rattle.std.specs.Prelude.{◌≡◌, ℕ, ◌-◌, ◌*◌, ◌/◌, ◌<◌, ◌≤◌, List}
use Rattle.yds_model.specs.Divisor.{common_divisor}
use Rattle.yds_model.specs.Slot.{WrittenSlot, WholeSlot, IsDivided, IsScale, slot_at_scale, slots_at}
use Rattle.yds_model.specs.Piece.{Piece}
use Rattle.yds_model.specs.Event.{LiesIn}
use Rattle.yds_model.specs.Plan.{IsOver}
use Rattle.yds_model.specs.Policy.{FillsAtSpeed}
use Rattle.yds_events.specs.Stretch.{length_of}

-- At a scale: the slot lies in the stretch, takes time, and runs at the speed capacity / (grain * length), by cross products.
pub record RunsIn (scale : ℕ) (stretch : Piece) (capacity grain : ℕ) (slot : WholeSlot) : Type 0 where
  pub lies_in : LiesIn scale slot stretch
  pub forward : slot.from < slot.to
  pub speed : slot.work * (grain * length_of stretch) ≡ capacity * (slot.to - slot.from)

-- At each scale it runs so, and its denominators are those of the stretch and the grain.
pub record IsLaidIn (stretch : Piece) (capacity grain : ℕ) (slot : WrittenSlot) : Type 0 where
  pub runs : (scale : ℕ) → 1 ≤ scale → IsDivided scale slot → RunsIn scale stretch capacity grain (slot_at_scale scale slot)
  pub from_den : IsOver (capacity / common_divisor capacity (length_of stretch)) slot.from
  pub to_den : IsOver (capacity / common_divisor capacity (length_of stretch)) slot.to
  pub work_den : IsOver grain slot.work

-- at each scale the slots fill the stretch from its start to its end, without a gap and at that speed
abbrev pub FillStretch : Piece → ℕ → ℕ → List WrittenSlot → Type 0
FillStretch stretch capacity grain slots = (scale : ℕ) → IsScale scale slots →
    FillsAtSpeed (scale * capacity) (grain * length_of stretch * scale) (stretch.from * scale) (stretch.to * scale) (slots_at scale slots)
