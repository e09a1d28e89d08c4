use Rattle.yds_slots.proofs.SlotOrder.{slots_scale, starts_rise, ends_rise, between_is}
use Rattle.yds_slots.proofs.schedule.Schedule.between.Goals as goal

pub first_from-start-requires : goal.first_from-start-requires
first_from-start-requires c =
    let scale = slots_scale c.self.inside.slots.items c.self.invariant.each in
    rw (c.deref.ensures.value) (starts_rise c.args.from scale.0 c.self.inside.slots.items scale.1 (rw (← c.self.view_is) at c.requires scale.0 scale.1))

pub end_of-requires : goal.end_of-requires
end_of-requires c =
    let scale = slots_scale c.self.inside.slots.items c.self.invariant.each in
    rw (c.deref-2.ensures.value) (ends_rise c.args.to scale.0 c.self.inside.slots.items scale.1 (rw (← c.self.view_is) at c.requires scale.0 scale.1))

pub returns-clause-part : goal.returns-clause-part
returns-clause-part c =
    rw (← c.self.view_is, c.deref-3.ensures.value)
    (between_is c.args.from c.args.to c.first_from-start.result c.end_of.result c.max-end.result c.self.inside.slots.items
    (rw (← c.deref.ensures.value) c.first_from-start.ensures.place) (rw (← c.deref-2.ensures.value) c.end_of.ensures.place) c.max-end.ensures)
