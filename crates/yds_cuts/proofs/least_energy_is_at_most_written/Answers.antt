use Rattle.yds_cuts.proofs.WrittenGroups.{least_energy_is_at_most_written}
use Rattle.yds_cuts.proofs.least_energy_is_at_most_written.Goals as goal

pub returns : goal.returns
returns c = least_energy_is_at_most_written
