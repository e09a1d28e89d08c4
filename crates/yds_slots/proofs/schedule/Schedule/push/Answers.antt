use Rattle.yds_slots.proofs.Receipts.{reached_receipts, pushed_receipts}
use Rattle.yds_slots.proofs.schedule.Schedule.push.Goals as goal

pub invariant_of-self : goal.invariant_of-self
invariant_of-self c =
    reached_receipts c.self.inside.jobs c.self.inside.slots.items c.self.inside.received.items c.reach.new.received.items c.self.invariant c.reach.ensures.same c.reach.ensures.no_fewer

pub invariant_of-self-in_err-push : goal.invariant_of-self-in_err-push
invariant_of-self-in_err-push c =
    rw (c.in_err-push.ensures.items)
    (reached_receipts c.self.inside.jobs c.self.inside.slots.items c.self.inside.received.items c.reach.new.received.items c.self.invariant c.reach.ensures.same c.reach.ensures.no_fewer)

pub invariant_of-self-2 : goal.invariant_of-self-2
invariant_of-self-2 c =
    let kept = reached_receipts c.self.inside.jobs c.self.inside.slots.items c.self.inside.received.items c.reach.new.received.items c.self.invariant c.reach.ensures.same c.reach.ensures.no_fewer in
    rw (c.in_ok-push.ensures.items, ← c.slot.view_is)
    (pushed_receipts c.self.inside.jobs c.self.inside.slots.items _ c.reach.new.received.items c.received.result c.with-received.result kept c.slot.invariant
    (rw (← c.self.view_is, ← c.slot.view_is) at c.requires.known)
    c.in_ok-reach.ensures.reached
    (rw (← c.self.view_is, ← c.slot.view_is) at c.requires.grain)
    (rw (← c.self.view_is) at c.requires.room)
    (rw (← c.self.view_is) at c.received.ensures)
    c.with-received.ensures.grain c.with-received.ensures.given)
