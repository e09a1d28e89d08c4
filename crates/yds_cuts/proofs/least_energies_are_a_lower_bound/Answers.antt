use Rattle.yds_cuts.proofs.LeastEnergies.{least_energies_are_a_lower_bound}
use Rattle.yds_cuts.proofs.least_energies_are_a_lower_bound.Goals as goal

pub returns : goal.returns
returns c = least_energies_are_a_lower_bound
