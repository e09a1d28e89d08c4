use Rattle.yds_model.proofs.Common.{◌≡◌, ◌-◌, ◌≤◌, length}
use Rattle.yds_edf.specs.Blocks.{units_before}
use Rattle.yds_edf.proofs.blocks.PlacedUnits.first.Given as goal

abbrev pub invariant-loop-self : goal.invariant-loop-self
invariant-loop-self l = record {
  none : units_before l.self-inside.units.items l.place ≡ 0;
  some : 1 ≤ units_before l.self-inside.units.items (length l.self-inside.units.items);
}

abbrev pub decreases-loop-self : goal.decreases-loop-self
decreases-loop-self l = length l.self-inside.units.items - l.place
