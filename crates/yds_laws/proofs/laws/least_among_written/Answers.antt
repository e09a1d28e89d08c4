use Rattle.yds_laws.proofs.Bound.{least_among_written}
use Rattle.yds_laws.proofs.laws.least_among_written.Goals as goal

pub returns : goal.returns
returns c = least_among_written
