use Rattle.yds_model.proofs.Common.{arith, ap, sum_by_more_le, Level}
use Rattle.yds_spending.proofs.load.loads_of_levels.Goals as goal

pub overflow_sub-rest : goal.overflow_sub-rest
overflow_sub-rest c = omega (
  arith,
  c.requires,
  c.loop-level.invariant.rest,
  ap (λ (level : Level). level.length) c.level.view_is,
  ap (λ (level : Level). level.length) c.level-item.is,
  sum_by_more_le (λ (level : Level). level.length) c.args.levels.now c.loop-level.level-index c.level-item.result c.loop-level-test.true,
)
