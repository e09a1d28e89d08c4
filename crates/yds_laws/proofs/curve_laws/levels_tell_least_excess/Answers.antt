use Rattle.yds_laws.proofs.LeastAbove.{levels_tell_least_excess as law}
use Rattle.yds_laws.proofs.curve_laws.levels_tell_least_excess.Goals as goal

pub returns : goal.returns
returns c = law
