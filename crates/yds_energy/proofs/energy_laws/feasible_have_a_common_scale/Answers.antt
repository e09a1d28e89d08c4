use Rattle.yds_energy.proofs.PlansEnergy.{feasible_have_a_common_scale as law}
use Rattle.yds_energy.proofs.energy_laws.feasible_have_a_common_scale.Goals as goal

pub returns : goal.returns
returns c = law
