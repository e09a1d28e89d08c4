use Rattle.yds_model.proofs.Common.{◌<◌, ◌++◌, ◌∷◌, [], ◌∙◌, arith, sym, ap, length, get_or_default, length_push, take-append-le, IsPermutation-append_comm}
use Rattle.yds_avr.specs.declared.rate.Rate.{Rate}
use Rattle.yds_avr.specs.Rate.{IsRate}
use Rattle.yds_avr.specs.Roster.{no_rate, AreRates}
use Rattle.yds_avr.proofs.Rounded.{whole_few}
use Rattle.yds_avr.proofs.Standing.{live_all, whole_fits, one_arrives, other_order}
use Rattle.yds_avr.proofs.roster.Roster.arrive.Goals as goal

pub overflow_add-self : goal.overflow_add-self
overflow_add-self c =
    let rates : AreRates c.loop-self.self.order.items = rw c.loop-self.invariant.same c.requires.rates in
    let is : IsRate c.index-rate.result.now = rw c.index-rate.ensures (rates.each c.loop-self.self.arrived c.index-rate.result.now (omega (arith, c.loop-self-test.true, c.len.ensures))) in
    omega (arith, whole_fits _ _ _ _ _ _ c.loop-self.invariant.parts rates, whole_few c.index-rate.result.now is)

pub loop-self-preserved : goal.loop-self-preserved
loop-self-preserved c =
    let known : c.loop-self.self.arrived < length c.loop-self.self.order.items = omega (arith, c.loop-self-test.true, c.len.ensures) in
    let is = λ (rate : Rate). get_or_default c.loop-self.self.order.items c.loop-self.self.arrived rate no_rate known in
    let rate = c.index-rate.result.now in
    rw (c.push_reserved.ensures.items, c.push_reserved.ensures.capacity) (record {
      same = c.loop-self.invariant.same;
      parts = one_arrives _ _ _ _ _ _ c.loop-self.invariant.parts rate (c.loop-self.self.live.items ++ rate ∷ []) _ known (sym (c.index-rate.ensures ∙ is rate))
          (omega (
            arith,
            c.if-index-time.true,
            ap (λ (one : Rate). one.release) (c.index.ensures ∙ is c.index.result.now),
            ap (λ (one : Rate). one.release) (c.index-rate.ensures ∙ is rate),
          )) (IsPermutation-append_comm (rate ∷ []) c.loop-self.self.live.items) (omega arith);
      no_fewer = omega (arith, c.loop-self.invariant.no_fewer, length_push c.loop-self.self.live.items rate);
      front = take-append-le c.len-before.result c.loop-self.self.live.items (rate ∷ []) c.loop-self.invariant.no_fewer ∙ c.loop-self.invariant.front;
    })

pub settle-requires-clause-rates : goal.settle-requires-clause-rates
settle-requires-clause-rates c =
    let rates : AreRates c.loop-self.self.order.items = rw c.loop-self.invariant.same c.requires.rates in
    live_all _ _ _ _ _ _ c.loop-self.invariant.parts IsRate rates.each

pub returns-clause-stands : goal.returns-clause-stands
returns-clause-stands c = record {
  parts = other_order _ _ _ _ _ _ c.loop-self.invariant.parts c.settle.new.live.items _ c.settle.ensures.same c.settle.ensures.room;
  falling = c.settle.ensures.falling;
}
