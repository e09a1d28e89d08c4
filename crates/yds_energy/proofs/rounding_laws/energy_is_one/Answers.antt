use Rattle.yds_energy.proofs.OneEnergy.{energy_is_one as law}
use Rattle.yds_energy.proofs.rounding_laws.energy_is_one.Goals as goal

pub returns : goal.returns
returns c = law
