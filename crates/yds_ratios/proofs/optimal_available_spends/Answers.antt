use Rattle.yds_ratios.proofs.OptimalAvailableSpends.{optimal_available_spends}
use Rattle.yds_ratios.proofs.optimal_available_spends.Goals as goal

pub returns : goal.returns
returns c = optimal_available_spends
