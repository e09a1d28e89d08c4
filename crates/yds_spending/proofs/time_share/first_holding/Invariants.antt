use Rattle.yds_model.proofs.Common.{ℕ, ◌<◌, point_at}
use Rattle.yds_spending.specs.TimeShare.{IsBelow}
use Rattle.yds_spending.proofs.time_share.first_holding.Given as goal

abbrev pub invariant-loop-place : goal.invariant-loop-place
invariant-loop-place l = (k : ℕ) → k < l.place → IsBelow l.fn.load (point_at l.points k)
