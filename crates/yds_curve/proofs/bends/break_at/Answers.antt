use Rattle.yds_model.proofs.Common.{◌≡◌, ◌≤◌, ◌-◌, ◌*◌, ap, ap₂, subst, ◌∙◌, arith, Fraction, IsSameQuotient, Level, in_lowest_terms, Break}
use Rattle.yds_fraction.proofs.OverDivisor.{speed_reduced}
use Rattle.yds_curve.proofs.bends.break_at.Goals as goal

pub returns : goal.returns
returns c =
    let level = c.args.level.now in
    let some : 1 ≤ level.length = omega (arith, c.level.invariant.has_length, ap (λ (l : Level). l.length) c.level.view_is) in
    let parts : c.saturating_sub-parts.result ≡ level.length * c.args.work - level.work * c.args.length = cc in
    let length : c.level.inside.length ≡ level.length = cc in
    ap₂ (λ (speed excess : Fraction). let bend : Break = record { speed = speed; excess = excess } in bend)
    (speed_reduced level.work level.length c.reduced.result some
    (subst (λ of_level. IsSameQuotient of_level c.reduced.result) c.speed.ensures c.reduced.ensures.same) c.reduced.ensures.kept.has_parts c.reduced.ensures.lowest)
    (c.in_lowest_terms.ensures ∙ ap₂ in_lowest_terms parts length)
