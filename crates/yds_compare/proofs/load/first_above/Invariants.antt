use Rattle.yds_model.proofs.Common.{ℕ, ◌<◌}
use Rattle.yds_spending.specs.Load.{load_at, IsHeldAt}
use Rattle.yds_compare.proofs.load.first_above.Given as goal

abbrev pub invariant-loop-place : goal.invariant-loop-place
invariant-loop-place l = (k : ℕ) → k < l.place → IsHeldAt l.top (load_at l.loads k)
