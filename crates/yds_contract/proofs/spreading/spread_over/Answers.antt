use Rattle.yds_model.proofs.Common.{◌≡◌, ℕ, ◌-◌, ◌*◌, ◌≤◌, List, ◌++◌, map, take, ap, sym, subst, ◌∙◌, arith, take_all, WrittenSlot, Piece}
use Rattle.base.specs.declared.limits.TheConstants.{MAX_TIME}
use Rattle.yds_contract.specs.Removed.{removed_stretches}
use Rattle.yds_contract.specs.Cut.{cut_between, cut_all}
use Rattle.yds_contract.specs.Spread.{slot_over}
use Rattle.yds_contract.proofs.Spreads.{can_here, spread, cuts_next}
use Rattle.yds_contract.proofs.spreading.spread_over.Goals as goal

pub cut-requires-clause-can : goal.cut-requires-clause-can
cut-requires-clause-can c =
    can_here c.args.speed c.in_ok-spans.spans.items c.deref-span-items.result.now c.loop-span.span-index c.span-item.result c.deref-span-items.ensures.value
    c.in_ok-spans.ensures.can c.loop-span-test.true c.span-item.is

pub events_inside-inside-requires : goal.events_inside-inside-requires
events_inside-inside-requires c =
    let can = can_here c.args.speed c.in_ok-spans.spans.items c.deref-span-items.result.now c.loop-span.span-index c.span-item.result c.deref-span-items.ensures.value
    c.in_ok-spans.ensures.can c.loop-span-test.true c.span-item.is in
    record {
      some = omega (arith, c.num.ensures.value, c.requires.some);
      forward = can.forward;
      within = subst (λ (n : ℕ). c.span-item.result.to ≤ MAX_TIME * n) (sym c.num.ensures.value) can.within;
      events = c.requires.events;
    }

pub returns : goal.returns
returns c =
    let whole : take c.loop-span.span-index c.deref-span-items.result.now ≡ c.in_ok-spans.spans.items =
    take_all c.loop-span.span-index c.deref-span-items.result.now c.loop-span-test.false ∙ c.deref-span-items.ensures.value in
    spread (removed_stretches c.args.removed.now) c.args.slot c.args.speed c.args.events.now c.in_ok-spans.spans.items c.loop-span.slots.items c.requires.some
    c.in_ok-spans.ensures.found c.requires.events
    (c.loop-span.invariant
    ∙ ap (λ (ps : List Piece). map (slot_over c.args.slot.job c.args.speed) (cut_all (map (λ event. event * c.args.speed.num) c.args.events.now) ps)) whole)

pub loop-span-preserved : goal.loop-span-preserved
loop-span-preserved c =
    cuts_next c.args.speed c.args.slot.job c.num.result c.args.events.now c.events_inside-inside.result.now c.deref-span-items.result.now c.loop-span.span-index
    c.span-item.result c.loop-span.slots.items c.cut.new.slots.items c.num.ensures.value c.loop-span-test.true c.span-item.is c.events_inside-inside.ensures
    (c.in_ok-cut.ensures
    ∙ ap (λ (s : WrittenSlot). c.loop-span.slots.items ++ map (slot_over s.job c.args.speed)
    (cut_between c.span-item.result.from c.span-item.result.to (map (λ event. event * c.args.speed.num) c.events_inside-inside.result.now))) c.slot.view_is)
    c.loop-span.invariant
