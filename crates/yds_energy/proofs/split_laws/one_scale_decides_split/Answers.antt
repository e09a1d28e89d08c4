use Rattle.yds_energy.proofs.RoundingScale.{one_scale_decides_split as law}
use Rattle.yds_energy.proofs.split_laws.one_scale_decides_split.Goals as goal

pub returns : goal.returns
returns c = law
