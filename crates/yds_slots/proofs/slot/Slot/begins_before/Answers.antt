use Rattle.yds_slots.proofs.SlotOrder.{whole_before}
use Rattle.yds_slots.proofs.slot.Slot.begins_before.Goals as goal

pub returns : goal.returns
returns c =
    rw (c.whole.ensures.value, c.from.ensures, ← c.self.view_is) (whole_before c.self.inside.from c.args.time c.self.invariant.from.below_one)
