use Rattle.yds_fraction.proofs.WithinLimits.{some_parts}
use Rattle.yds_checker.proofs.Products.{speed_of_products}
use Rattle.yds_checker.proofs.speeds.has_speed_of.Goals as goal

pub returns : goal.returns
returns c =
    let slot = c.slot.inside in
    let level = c.level.inside in
    let law = speed_of_products level.work level.length slot.work slot.from slot.to c.sub.result c.mul.result c.mul-2.result
    (some_parts _ c.slot.invariant.work) (some_parts _ c.slot.invariant.from) (some_parts _ c.slot.invariant.to) (some_parts _ c.sub.ensures.kept.fraction)
    (some_parts _ c.mul.ensures.kept.fraction) (some_parts _ c.mul-2.ensures.kept.fraction) c.mul.ensures.multiple c.sub.ensures.difference c.mul-2.ensures.multiple in
    rw (← c.slot.view_is, ← c.level.view_is) (λ is. law.0 (c.eq.ensures.same.0 is), λ has. c.eq.ensures.same.1 (law.1 has))
