use Rattle.yds_group_runs.proofs.Spending.{group_runs_spend}
use Rattle.yds_group_runs.proofs.group_runs_spend.Goals as goal

pub returns : goal.returns
returns c = group_runs_spend
