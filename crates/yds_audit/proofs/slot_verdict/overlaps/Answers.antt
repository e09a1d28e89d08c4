use Rattle.yds_model.proofs.Common.{arith}
use Rattle.yds_audit.proofs.Neighbours.{overlap_told}
use Rattle.yds_audit.proofs.slot_verdict.overlaps.Goals as goal

pub returns : goal.returns
returns c =
    overlap_told c.args.slots.now c.args.i c.index-slots-i-2.result c.index-slots-i.result c.is_before.result (omega arith) c.requires
    c.index-slots-i-2.is c.index-slots-i.is
    (rw (← c.slot.view_is, ← c.before-2.view_is) c.is_before.ensures)
