-- A slot's speed against that of one level.
use Rattle.std.specs.Prelude.{◌≡◌, ◌*◌}
use Rattle.yds_model.specs.Scale.{numerator}
use Rattle.yds_model.specs.Slot.{WrittenSlot}
use Rattle.yds_model.specs.Level.{Level}
use Rattle.yds_model.specs.Audit.{crossed_length}

-- the slot has the level's speed, by cross products
abbrev pub HasSpeedOf : Level → WrittenSlot → Type 0
HasSpeedOf level slot =
    numerator slot.work * level.length * (slot.from.den * slot.to.den) ≡ level.work * crossed_length slot.from slot.to * slot.work.den
