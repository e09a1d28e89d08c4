use Rattle.yds_cuts.proofs.Above.{shortened_is_feasible}
use Rattle.yds_cuts.proofs.shortened_is_feasible.Goals as goal

pub returns : goal.returns
returns c = shortened_is_feasible
