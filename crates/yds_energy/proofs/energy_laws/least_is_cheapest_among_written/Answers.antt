use Rattle.yds_energy.proofs.PlansEnergy.{least_is_cheapest_among_written as law}
use Rattle.yds_energy.proofs.energy_laws.least_is_cheapest_among_written.Goals as goal

pub returns : goal.returns
returns c = law
