use Rattle.yds_model.proofs.Common.{rules, always_returns_same}
use Rattle.yds_slots.specs.Between.{begins_before}
use Rattle.yds_slots.proofs.search.first_from.Goals as goal

pub returns-clause-place : goal.returns-clause-place
returns-clause-place c = c.partition_point.ensures.partitioned (begins_before c.args.time) (always_returns_same _ _ _ (λ a r f' k. (search rules, search rules))) c.requires
