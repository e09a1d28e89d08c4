use Rattle.yds_cuts.proofs.CutEnergies.{energy_on_points_in_each_part}
use Rattle.yds_cuts.proofs.energy_on_points_in_each_part.Goals as goal

pub returns : goal.returns
returns c = energy_on_points_in_each_part
