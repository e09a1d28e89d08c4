use Rattle.yds_model.proofs.Common.{◌<◌, ◌≤◌, length, ◌∙◌, arith, sym, subst, get_or_read, get_or_past}
use Rattle.yds_slots.specs.Received.{Receipt}
use Rattle.yds_slots.specs.KeptSlots.{IsReceiptOf, nothing}
use Rattle.yds_slots.proofs.schedule.Schedule.received.Goals as goal

pub returns-then-job-len : goal.returns-then-job-len
returns-then-job-len c =
    let past : length c.self.inside.received.items ≤ c.args.job = omega (arith, c.if-job-len.true, c.len.ensures, c.self.inside.received.ok.0) in
    let none = c.nothing.ensures ∙ sym (get_or_past c.self.inside.received.items c.args.job nothing past) in
    rw (← c.self.view_is) (subst (λ (receipt : Receipt). IsReceiptOf c.self.inside.slots.items c.args.job receipt) (sym none) (c.self.invariant.given c.args.job))

pub returns : goal.returns
returns c =
    let within : c.args.job < length c.self.inside.received.items = omega (arith, c.if-job-len.false, c.len.ensures, c.self.inside.received.ok.0) in
    let read = get_or_read c.self.inside.received.items c.args.job c.index.result.now within c.index.ensures nothing in
    rw (← c.self.view_is) (subst (λ (receipt : Receipt). IsReceiptOf c.self.inside.slots.items c.args.job receipt) (sym read) (c.self.invariant.given c.args.job))
