use Rattle.yds_laws.proofs.Bound.{explained_is_least}
use Rattle.yds_laws.proofs.laws.explained_is_least.Goals as goal

pub returns : goal.returns
returns c = explained_is_least
