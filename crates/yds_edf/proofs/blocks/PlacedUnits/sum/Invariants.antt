use Rattle.yds_model.proofs.Common.{◌≡◌, ◌+◌, ◌-◌, ◌≤◌}
use Rattle.yds_edf.specs.Blocks.{units_before}
use Rattle.yds_edf.proofs.blocks.PlacedUnits.sum.Given as goal

abbrev pub invariant-loop-place : goal.invariant-loop-place
invariant-loop-place l = record {
  sum : units_before l.self l.start + l.units ≡ units_before l.self l.place;
  within : l.place ≤ l.end;
}

abbrev pub decreases-loop-place : goal.decreases-loop-place
decreases-loop-place l = l.end - l.place
