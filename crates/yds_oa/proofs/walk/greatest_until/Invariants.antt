use Rattle.yds_model.proofs.Common.{◌≡◌, ◌+◌}
use Rattle.yds_edf.specs.Blocks.{units_before}
use Rattle.yds_oa.specs.Greatest.{IsGreatestWithin}
use Rattle.yds_oa.proofs.walk.greatest_until.Given as goal

abbrev pub invariant-loop-place : goal.invariant-loop-place
invariant-loop-place l = record {
  sum : units_before l.jobs.units l.walk.start + l.units ≡ units_before l.jobs.units l.place;
  greatest : IsGreatestWithin l.jobs l.walk.from l.walk.start l.place l.greatest;
}
