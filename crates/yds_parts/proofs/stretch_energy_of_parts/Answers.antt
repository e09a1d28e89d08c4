use Rattle.yds_parts.proofs.SpentOfParts.{stretch_energy_of_parts}
use Rattle.yds_parts.proofs.stretch_energy_of_parts.Goals as goal

pub returns : goal.returns
returns c = stretch_energy_of_parts
