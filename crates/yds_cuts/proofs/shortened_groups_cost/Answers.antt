use Rattle.yds_cuts.proofs.Above.{shortened_groups_cost}
use Rattle.yds_cuts.proofs.shortened_groups_cost.Goals as goal

pub returns : goal.returns
returns c = shortened_groups_cost
