use Rattle.yds_model.proofs.Common.{◌≡◌, ◌*◌, take, map, sum_by, in_parts}
use Rattle.yds_spending.specs.Spent.{time_of_loads}
use Rattle.yds_spending.proofs.spent.spend.Given as goal

abbrev pub invariant-loop-point : goal.invariant-loop-point
invariant-loop-point l = record {
  parts : l.parts ≡ sum_by (λ point. point.power * time_of_loads l.table l.loads point.speed) (take l.point-index l.points);
  times : l.times.items ≡ map (λ point. in_parts l.table l.unit (time_of_loads l.table l.loads point.speed)) (take l.point-index l.points);
}
