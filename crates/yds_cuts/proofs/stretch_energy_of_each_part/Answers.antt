use Rattle.yds_cuts.proofs.SpentParts.{stretch_energy_of_each_part}
use Rattle.yds_cuts.proofs.stretch_energy_of_each_part.Goals as goal

pub returns : goal.returns
returns c = stretch_energy_of_each_part
