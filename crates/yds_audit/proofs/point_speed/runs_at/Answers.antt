use Rattle.yds_fraction.proofs.WithinLimits.{some_parts}
use Rattle.yds_audit.proofs.Speeds.{speed_of_product}
use Rattle.yds_audit.proofs.point_speed.runs_at.Goals as goal

pub returns : goal.returns
returns c =
    let slot = c.slot.inside in
    let law = speed_of_product c.args.speed slot.work slot.from slot.to c.sub.result c.mul.result (some_parts _ c.slot.invariant.from)
    (some_parts _ c.slot.invariant.to) (some_parts _ c.sub.ensures.kept.fraction) (some_parts _ c.mul.ensures.kept.fraction) c.sub.ensures.difference c.mul.ensures.multiple in
    rw (← c.slot.view_is) (λ is. law.0 (c.eq.ensures.same.0 is), λ runs. c.eq.ensures.same.1 (law.1 runs))
