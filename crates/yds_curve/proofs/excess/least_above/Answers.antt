use Rattle.yds_model.proofs.Common.{◌≤◌, ◌-◌, ◌*◌, ◌∙◌, ℕ, ap, ap₂, arith, sum_by, take_all, sum_by_more, mul-le-mul_right, Level, in_lowest_terms}
use Rattle.base.specs.declared.limits.TheConstants.{MAX_LEVELS, MAX_LEVEL_WORK}
use Rattle.yds_curve.proofs.Fronts.{work_in_range, few_above}
use Rattle.yds_curve.proofs.excess.least_above.Goals as goal

pub overflow_add-parts : goal.overflow_add-parts
overflow_add-parts c =
    let count : c.loop-level.level-index ≤ MAX_LEVELS = few_above _ _ _ _ _ c.prefix-level-items.ensures c.levels-levels.ensures.kept (omega (arith, c.loop-level-test.true)) in
    omega (
      arith,
      c.loop-level.invariant.few,
      c.work_above-parts.ensures.few,
      count,
      mul-le-mul_right (c.loop-level.level-index * MAX_LEVEL_WORK) c.den-den.ensures.kept.den_in_range,
      c.den-den.ensures.kept.den_in_range,
    )

pub loop-level-preserved : goal.loop-level-preserved
loop-level-preserved c =
    let term : Level → ℕ = λ level. c.args.threshold.den * level.work - c.args.threshold.num * level.length in
    record {
      parts = omega (
        arith,
        c.loop-level.invariant.parts,
        c.work_above-parts.ensures.value,
        ap term c.level-item.is,
        sum_by_more term c.prefix-level-items.result.now c.loop-level.level-index c.level-item.result c.loop-level-test.true,
      );
      few = omega (arith, c.loop-level.invariant.few, c.work_above-parts.ensures.few);
    }

pub in_lowest_terms-requires-clause-whole_in_range : goal.in_lowest_terms-requires-clause-whole_in_range
in_lowest_terms-requires-clause-whole_in_range c =
    work_in_range c.loop-level.parts c.den-den.result c.loop-level.level-index (omega (arith, c.loop-level.invariant.few, ap (λ n. n * (c.loop-level.level-index * MAX_LEVEL_WORK)) c.den-den.ensures.value))
    (few_above _ _ _ _ _ c.prefix-level-items.ensures c.levels-levels.ensures.kept c.loop-level.auto.level-index-end)

pub returns : goal.returns
returns c =
    let term : Level → ℕ = λ level. c.args.threshold.den * level.work - c.args.threshold.num * level.length in
    c.in_lowest_terms.ensures
    ∙ ap₂ in_lowest_terms (c.loop-level.invariant.parts ∙ ap (sum_by term) (take_all _ _ c.loop-level-test.false ∙ c.prefix-level-items.ensures)) c.den-den.ensures.value
