use Rattle.yds_cuts.proofs.Below.{groups_cost_at_most_all}
use Rattle.yds_cuts.proofs.groups_cost_at_most_all.Goals as goal

pub returns : goal.returns
returns c = groups_cost_at_most_all
