use Rattle.yds_model.proofs.Common.{◌≡◌, ◌+◌}
use Rattle.yds_edf.specs.Blocks.{units_before}
use Rattle.yds_edf.proofs.blocks.PlacedUnits.between.Given as goal

abbrev pub invariant-loop-place : goal.invariant-loop-place
invariant-loop-place l = units_before l.self l.start + l.units ≡ units_before l.self l.place
