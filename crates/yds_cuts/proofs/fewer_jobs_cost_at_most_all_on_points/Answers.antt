use Rattle.yds_cuts.proofs.Below.{fewer_jobs_cost_at_most_all_on_points}
use Rattle.yds_cuts.proofs.fewer_jobs_cost_at_most_all_on_points.Goals as goal

pub returns : goal.returns
returns c = fewer_jobs_cost_at_most_all_on_points
