use Rattle.yds_ratios.proofs.AverageRateSpends.{average_rate_spends}
use Rattle.yds_ratios.proofs.average_rate_spends.Goals as goal

pub returns : goal.returns
returns c = average_rate_spends
