use Rattle.yds_model.proofs.Common.{◌≡◌, ◌-◌, length}
use Rattle.yds_oa.specs.Greatest.{IsWalk}
use Rattle.yds_oa.proofs.walk.greatest_quotient.Given as goal

abbrev pub invariant-loop-walk : goal.invariant-loop-walk
invariant-loop-walk l = record {
  walk : IsWalk l.jobs l.walk;
  from : l.walk.from ≡ l.fn.from;
}

abbrev pub decreases-loop-walk : goal.decreases-loop-walk
decreases-loop-walk l = length l.jobs.order.items - l.walk.place
