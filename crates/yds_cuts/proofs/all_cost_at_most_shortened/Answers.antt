use Rattle.yds_cuts.proofs.Above.{all_cost_at_most_shortened}
use Rattle.yds_cuts.proofs.all_cost_at_most_shortened.Goals as goal

pub returns : goal.returns
returns c = all_cost_at_most_shortened
