use Rattle.yds_group_runs.proofs.Above.{group_runs_above_a_speed}
use Rattle.yds_group_runs.proofs.group_runs_above_a_speed.Goals as goal

pub returns : goal.returns
returns c = group_runs_above_a_speed
