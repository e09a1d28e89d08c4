use Rattle.yds_laws.proofs.Explained.{proper_explains}
use Rattle.yds_laws.proofs.laws.proper_explains.Goals as goal

pub returns : goal.returns
returns c = proper_explains
