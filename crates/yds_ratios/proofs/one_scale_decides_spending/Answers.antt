use Rattle.yds_ratios.proofs.SpendingScale.{one_scale_decides_spending}
use Rattle.yds_ratios.proofs.one_scale_decides_spending.Goals as goal

pub returns : goal.returns
returns c = one_scale_decides_spending
