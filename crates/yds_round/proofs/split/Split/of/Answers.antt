use Rattle.yds_model.proofs.Common.{◌≡◌, ◌<◌, ◌*◌, ◌∙◌, ap, arith, Point}
use Rattle.yds_round.proofs.SplitParts.{some_divisor}
use Rattle.yds_round.proofs.Splits.{some_den, above_in_terms, split_is}
use Rattle.yds_round.proofs.split.Split.of.Goals as goal

pub nonzero_div-den : goal.nonzero_div-den
nonzero_div-den c = some_divisor c.level.inside.work c.level.inside.length c.gcd-divisor.result c.level.invariant.has_length c.gcd-divisor.ensures.value

pub nonzero_div-result : goal.nonzero_div-result
nonzero_div-result c = some_divisor c.level.inside.work c.level.inside.length c.gcd-divisor.result c.level.invariant.has_length c.gcd-divisor.ensures.value

pub overflow_sub-result : goal.overflow_sub-result
overflow_sub-result c =
    let low : c.from-low.result ≡ c.args.low.speed = c.from-low.ensures ∙ ap (λ (point : Point). point.speed) c.low.view_is in
    let above : c.args.low.speed * c.level.inside.length < c.level.inside.work = rw (← c.level.view_is) at c.requires.above_low in
    rw low (omega (
      arith,
      above_in_terms c.level.inside.work c.level.inside.length c.gcd-divisor.result c.level.invariant.has_length c.gcd-divisor.ensures.value
          c.args.low.speed above,
    ))

pub of-requires-clause-some_den : goal.of-requires-clause-some_den
of-requires-clause-some_den c = some_den c.level.inside.work c.level.inside.length c.gcd-divisor.result c.level.invariant.has_length c.gcd-divisor.ensures.value

pub returns : goal.returns
returns c =
    let low : c.from-low.result ≡ c.args.low.speed = c.from-low.ensures ∙ ap (λ (point : Point). point.speed) c.low.view_is in
    let high : c.from-high.result ≡ c.args.high.speed = c.from-high.ensures ∙ ap (λ (point : Point). point.speed) c.high.view_is in
    rw (← c.level.view_is) (split_is _ c.args.low c.args.high c.gcd-divisor.result c.from-low.result c.from-high.result c.of.result c.of-2.result
    c.level.invariant.has_length c.level.invariant.length_in_range c.level.invariant.work_in_range
    (omega (arith, c.high.invariant.speed_in_range, ap (λ (point : Point). point.speed) c.high.view_is)) c.gcd-divisor.ensures.value low high
    (rw (← c.level.view_is) at c.requires.above_low) (rw (← c.level.view_is) at c.requires.below_high) c.of.ensures (rw c.max.ensures at c.of-2.ensures))
