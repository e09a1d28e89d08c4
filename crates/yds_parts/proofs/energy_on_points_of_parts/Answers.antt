use Rattle.yds_parts.proofs.Energies.{energy_on_points_of_parts}
use Rattle.yds_parts.proofs.energy_on_points_of_parts.Goals as goal

pub returns : goal.returns
returns c = energy_on_points_of_parts
