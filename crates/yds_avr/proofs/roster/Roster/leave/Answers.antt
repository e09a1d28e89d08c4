use Rattle.yds_model.proofs.Common.{◌-◌, arith, ap, get_or_default}
use Rattle.std.proofs.lemmas.List.Sorted.{IsNonDecreasingBy-take}
use Rattle.base.specs.declared.limits.TheConstants.{MAX_TIME}
use Rattle.yds_avr.specs.Roster.{no_rate}
use Rattle.yds_avr.specs.declared.rate.Rate.{Rate}
use Rattle.yds_avr.proofs.Standing.{due_behind, none_due, some_leave}
use Rattle.yds_avr.proofs.roster.Roster.leave.Goals as goal
use Rattle.yds_avr.proofs.roster.Roster.leave.Goals.{then-loop-stay-test+else-index-time, else-loop-stay-test}

pub returns-clause-stands : goal.returns-clause-stands
returns-clause-stands c = rw (c.truncate.ensures.items, c.truncate.ensures.capacity, c.loop-stay.invariant.live, c.loop-stay.invariant.order, c.loop-stay.invariant.arrived) (record {
  parts = some_leave _ _ _ _ _ _ c.requires.stands.parts c.loop-stay.stay c.loop-stay.self.whole
      (rw c.loop-stay.invariant.live at c.loop-stay.invariant.together)
      (due_behind c.args.self.now.live.items c.loop-stay.stay c.args.time (rw c.loop-stay.invariant.live at c.loop-stay.invariant.due));
  falling = IsNonDecreasingBy-take (λ rate. MAX_TIME - rate.deadline) c.loop-stay.stay c.args.self.now.live.items c.requires.stands.falling;
})

pub returns-clause-live : goal.returns-clause-live
returns-clause-live c = rw (c.truncate.ensures.items, c.loop-stay.invariant.live)
    (none_due _ _ _ _ _ _ c.requires.stands.parts c.requires.rates.each c.requires.stands.falling c.loop-stay.stay (rw c.loop-stay.invariant.live at c.loop-stay.invariant.within)
    (elim c.loop-stay-test.branch [
      | then-loop-stay-test+else-index-time w ↦ λ some. omega (
        arith,
        w.if-index-time.false,
        ap (λ (rate : Rate). rate.deadline) (rw c.loop-stay.invariant.live at w.index.ensures),
        ap (λ (rate : Rate). rate.deadline) (get_or_default c.args.self.now.live.items (c.loop-stay.stay - 1) w.index.result.now no_rate (omega (arith, some, rw c.loop-stay.invariant.live at c.loop-stay.invariant.within))),
      )
      | else-loop-stay-test w ↦ λ some. absurd (omega (arith, some, w.loop-stay-test.false))
    ]))
