use Rattle.yds_model.proofs.Common.{◌≡◌, ◌*◌, ◌<◌, length, get_or, map, ap, sym, ◌∙◌, inl, inr, arith, get_or-map, length-map}
use Rattle.yds_contract.proofs.Spreads.{cut_more, cut_kept}
use Rattle.yds_contract.proofs.spreading.cut.Goals as goal
use Rattle.yds_contract.proofs.spreading.cut.Goals.{then-from-time+then-time-span+in_ok-push, else-from-time, else-from-time-via-then-from-time+else-time-span, else-from-time-via-else-from-time}

pub loop-event-preserved : goal.loop-event-preserved
loop-event-preserved c =
    let speed = c.args.speed in
    let events = c.args.events.now in
    let i = c.loop-event.event-index in
    let within : i < length (map (λ event. event * speed.num) events) = omega (arith, length-map events (λ event. event * speed.num), c.loop-event-test.true) in
    let at : c.from.result * c.num.result ≡ get_or (map (λ event. event * speed.num) events) i 0 =
    ap (λ n. n * c.num.result) c.from.ensures ∙ ap (λ n. get_or events i 0 * n) c.num.ensures.value
    ∙ sym (get_or-map (λ event. event * speed.num) events i 0 0 c.loop-event-test.true) in
    elim c.if-from-time.branch [
      | then-from-time+then-time-span+in_ok-push w ↦ rw (w.slots-is, w.from-is)
          (cut_more speed c.args.job c.args.slots.now.items c.span.inside.from c.span.inside.to (map (λ event. event * speed.num) events) i c.loop-event.from (c.from.result * c.num.result)
          c.loop-event.slots.items _ within at w.if-from-time.true w.if-time-span.true (rw (w.slot_between.ensures) at w.in_ok-push.ensures.items) c.loop-event.invariant)
      | else-from-time w ↦ rw (w.slots-is, w.from-is)
          (cut_kept speed c.args.job c.args.slots.now.items c.span.inside.from c.span.inside.to (map (λ event. event * speed.num) events) i c.loop-event.from (c.from.result * c.num.result)
          c.loop-event.slots.items within at
          (elim w.else-from-time.branch [
            | else-from-time-via-then-from-time+else-time-span w' ↦ inr w'.if-time-span.false
            | else-from-time-via-else-from-time w' ↦ inl w'.if-from-time.false
          ]) c.loop-event.invariant)
    ]
