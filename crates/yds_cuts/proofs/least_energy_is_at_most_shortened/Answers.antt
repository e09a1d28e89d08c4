use Rattle.yds_cuts.proofs.Above.{least_energy_is_at_most_shortened}
use Rattle.yds_cuts.proofs.least_energy_is_at_most_shortened.Goals as goal

pub returns : goal.returns
returns c = least_energy_is_at_most_shortened
