use Rattle.yds_model.proofs.Common.{◌++◌, ◌∷◌, [], List, refl, ap, ◌∙◌, append-nil, take_all, WrittenSlot}
use Rattle.yds_slots.specs.Schedule.{WrittenSchedule}
use Rattle.yds_round.proofs.KeptSlots.{kept_known, kept_fits, kept_room, kept_more}
use Rattle.yds_round.proofs.rounding.keep.Goals as goal

pub push-requires-clause-known : goal.push-requires-clause-known
push-requires-clause-known c = rw (c.loop-slot.invariant)
    (kept_known c.args.rounded.now.jobs c.args.rounded.now.slots c.args.planned.now c.requires c.loop-slot.slot-index c.slot-item.result c.loop-slot-test.true c.slot-item.is)

pub push-requires-clause-grain : goal.push-requires-clause-grain
push-requires-clause-grain c = rw (c.loop-slot.invariant)
    (kept_fits c.args.rounded.now.jobs c.args.rounded.now.slots c.args.planned.now c.requires c.loop-slot.slot-index c.slot-item.result c.loop-slot-test.true c.slot-item.is)

pub push-requires-clause-room : goal.push-requires-clause-room
push-requires-clause-room c = rw (c.loop-slot.invariant)
    (kept_room c.args.rounded.now.jobs c.args.rounded.now.slots c.args.planned.now c.requires c.loop-slot.slot-index c.slot-item.result c.loop-slot-test.true c.slot-item.is)

pub loop-slot-init : goal.loop-slot-init
loop-slot-init c = rw (append-nil c.args.rounded.now.slots) refl

pub loop-slot-preserved : goal.loop-slot-preserved
loop-slot-preserved c =
    let made : List WrittenSlot → WrittenSchedule = λ slots. record { jobs = c.args.rounded.now.jobs; slots = slots } in
    let one : (slots : WrittenSchedule) → WrittenSchedule = λ slots. record { jobs = slots.jobs; slots = slots.slots ++ c.slot-item.result ∷ [] } in
    c.in_ok-push.ensures.ok ∙ ap one c.loop-slot.invariant
    ∙ ap made (kept_more c.args.rounded.now.jobs c.args.rounded.now.slots c.args.planned.now c.requires c.loop-slot.slot-index c.slot-item.result c.loop-slot-test.true c.slot-item.is)

pub returns : goal.returns
returns c =
    let made : List WrittenSlot → WrittenSchedule = λ slots. record { jobs = c.args.rounded.now.jobs; slots = c.args.rounded.now.slots ++ slots } in
    c.loop-slot.invariant ∙ ap made (take_all c.loop-slot.slot-index c.args.planned.now c.loop-slot-test.false)
