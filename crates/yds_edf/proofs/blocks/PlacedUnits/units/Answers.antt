use Rattle.yds_edf.proofs.PlacedSums.{few_units}
use Rattle.yds_edf.proofs.blocks.PlacedUnits.units.Goals as goal

pub returns-clause-few : goal.returns-clause-few
returns-clause-few c = rw (c.deref.ensures.value) (few_units c.self.invariant)
