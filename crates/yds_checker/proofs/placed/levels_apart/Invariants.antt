use Rattle.yds_model.proofs.Common.{◌<◌, ◌≤◌, ◌-◌}
use Rattle.yds_checker.specs.Placed.{AreApartBelow}
use Rattle.yds_checker.proofs.placed.levels_apart.Given as goal

abbrev pub invariant-loop-apart : goal.invariant-loop-apart
invariant-loop-apart l = (l.apart < l.not_apart) × (l.not_apart ≤ l.levels) × AreApartBelow l.apart l.placed × (AreApartBelow l.not_apart l.placed → ⊥)

abbrev pub decreases-loop-apart : goal.decreases-loop-apart
decreases-loop-apart l = l.not_apart - l.apart
