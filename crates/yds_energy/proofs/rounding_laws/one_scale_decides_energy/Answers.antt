use Rattle.yds_energy.proofs.RoundingScale.{one_scale_decides_energy as law}
use Rattle.yds_energy.proofs.rounding_laws.one_scale_decides_energy.Goals as goal

pub returns : goal.returns
returns c = law
