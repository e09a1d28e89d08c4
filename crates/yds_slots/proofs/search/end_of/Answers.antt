use Rattle.yds_model.proofs.Common.{rules, always_returns_same}
use Rattle.yds_slots.specs.Between.{ends_by}
use Rattle.yds_slots.proofs.search.end_of.Goals as goal

pub returns-clause-place : goal.returns-clause-place
returns-clause-place c = c.partition_point.ensures.partitioned (ends_by c.args.time) (always_returns_same _ _ _ (λ a r f' k. (search rules, search rules))) c.requires
