use Rattle.base.proofs.Common.{ℕ, ◌≡◌, ◌≤◌, ◌+◌, List, sym, ap, ◌∙◌, arith, subst, set, length, length-set}
use Rattle.yds_kernel.specs.Event.{Event, Stamped}
use Rattle.yds_kernel.specs.Views.{event_read}
use Rattle.yds_kernel_order.specs.declared.limits.TheConstants.{MAX_PASSED}
use Rattle.yds_kernel_order.specs.Order.{Placed}
use Rattle.yds_kernel_order.specs.Ring.{Places, held_from, passed_in}
use Rattle.yds_kernel_order.proofs.Holding.{count_held, event_written, event_places, none_is, ring_of, waiting_len, lent}
use Rattle.yds_kernel_order.proofs.ring.Ring.place_event.Goals as goal

pub move_down-requires-clause-count : goal.move_down-requires-clause-count
move_down-requires-clause-count c =
    let ring = c.self.inside in
    let held : ℕ = ring.given + ring.waiting in
    let found : c.passed-found.result ≡ passed_in MAX_PASSED c.args.event.now.time (held_from ring.slots.items ring.first held) =
    c.passed-found.ensures ∙ ap (λ (items : List Placed). passed_in MAX_PASSED c.args.event.now.time (held_from items ring.first held)) c.deref.ensures.value in
    omega (arith, c.unwrap_or.ensures, count_held ring.slots.items ring.first held c.args.event.now.time c.passed-found.result found)

pub returns : goal.returns
returns c =
    let ring = c.self.inside in
    let held : ℕ = ring.given + ring.waiting in
    let event : Event = event_read c.args.event.now in
    let new : List Placed = c.move_down.new.slots in
    let found : c.passed-found.result ≡ passed_in MAX_PASSED event.time (held_from ring.slots.items ring.first held) =
    c.passed-found.ensures ∙ ap (λ (items : List Placed). passed_in MAX_PASSED event.time (held_from items ring.first held)) c.deref.ensures.value in
    let kept = c.self.invariant in
    let room : ring.waiting ≤ MAX_PASSED = waiting_len ring.slots.items ring.first ring.given ring.waiting _ c.self.view_is c.requires in
    let put = event_written ring.slots.items c.deref_mut.result.now new ring.first held c.args.number c.wrapped-place.result c.unwrap_or.result event c.passed-found.result
    c.set_event.new.self c.is_none.result c.wrapped-place.ensures (none_is c.passed-found.result c.is_none.result c.is_none.ensures) c.in_ok-set_event.ensures c.deref_mut.ensures.value c.unwrap_or.ensures c.move_down.ensures.moved in
    let places = event_places ring.slots.items new ring.first ring.given ring.waiting c.args.number event c.passed-found.result kept.1 kept.2 room (sym ring.slots.ok.0 ∙ kept.0) found put in
    let written : List Placed = set ring.slots.items c.wrapped-place.result c.set_event.new.self in
    let whole = lent ring.slots.len written new (ring.slots.ok.0 ∙ sym (length-set ring.slots.items c.wrapped-place.result c.set_event.new.self))
    (c.move_down.ensures.len ∙ ap length c.deref_mut.ensures.value) in
    rw (← c.self.view_is)
    (subst (λ (items : List Placed). Places c.args.number (Stamped event) (ring_of ring.slots.items ring.first ring.given ring.waiting)
    (ring_of items ring.first ring.given (ring.waiting + 1))) (sym whole) places)
