use Rattle.yds_model.proofs.Common.{◌<◌, arith, length-take, All-permutation, length_permutation, WrittenSlot}
use Rattle.yds_slots.proofs.Grains.{fits_next}
use Rattle.yds_slots.proofs.schedule.Schedule.sorted.Goals as goal

pub push-requires-clause-known : goal.push-requires-clause-known
push-requires-clause-known c =
    rw (c.loop-slot.invariant, c.slot-item.is)
    (All-permutation (λ (slot : WrittenSlot). slot.job < c.args.jobs) c.args.slots.items c.deref-slot-items.result.now
    (rw (c.deref-slot-items.ensures.value) c.in_ok-rising.ensures.same) c.requires.agree.known c.loop-slot.slot-index c.slot-item.result c.loop-slot-test.true)

pub push-requires-clause-grain : goal.push-requires-clause-grain
push-requires-clause-grain c =
    rw (c.loop-slot.invariant)
    (fits_next c.args.jobs c.args.slots.items c.deref-slot-items.result.now c.loop-slot.slot-index c.slot-item.result
    (rw (c.deref-slot-items.ensures.value) c.in_ok-rising.ensures.same) c.requires.agree c.loop-slot-test.true c.slot-item.is)

pub push-requires-clause-room : goal.push-requires-clause-room
push-requires-clause-room c =
    let same = rw (← c.deref-slot-items.ensures.value) at c.in_ok-rising.ensures.same in
    rw (c.loop-slot.invariant)
    (omega (arith, length-take c.loop-slot.slot-index c.deref-slot-items.result.now, length_permutation c.args.slots.items c.deref-slot-items.result.now same, c.args.slots.ok.0))
