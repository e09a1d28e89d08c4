-- The slots that lie between two whole times.
use Rattle.std.specs.Prelude.{ℕ, ◌*◌, List, Bool, nat_lt, nat_le, ◌&&◌}
use Rattle.yds_model.specs.Scale.{numerator}
use Rattle.yds_model.specs.Slot.{WrittenSlot, IsScale, slots_at}
use Rattle.yds_model.specs.Feasible.{RunFrom}

-- each slot takes time, and ends before the next one begins, as those of a feasible schedule do
abbrev pub RunInOrder : List WrittenSlot → Type 0
RunInOrder slots = (scale : ℕ) → IsScale scale slots → RunFrom 0 (slots_at scale slots)

-- the slot begins at one time or later, and has ended by the other
abbrev pub lies_between : ℕ → ℕ → WrittenSlot → Bool
lies_between from to slot = nat_le (from * slot.from.den) (numerator slot.from) && nat_le (numerator slot.to) (to * slot.to.den)

abbrev pub begins_before : ℕ → WrittenSlot → Bool
begins_before time slot = nat_lt (numerator slot.from) (time * slot.from.den)

abbrev pub ends_by : ℕ → WrittenSlot → Bool
ends_by time slot = nat_le (numerator slot.to) (time * slot.to.den)
