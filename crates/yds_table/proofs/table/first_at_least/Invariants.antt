use Rattle.yds_model.proofs.Common.{ℕ, ◌<◌, point_at}
use Rattle.yds_table.specs.Around.{IsPointBelow}
use Rattle.yds_table.proofs.table.first_at_least.Given as goal

abbrev pub invariant-loop-place : goal.invariant-loop-place
invariant-loop-place l = (k : ℕ) → k < l.place → IsPointBelow l.speed (point_at l.points k)
