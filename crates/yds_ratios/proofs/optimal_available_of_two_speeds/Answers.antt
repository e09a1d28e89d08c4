use Rattle.yds_ratios.proofs.OptimalAvailableSpends.{optimal_available_of_two_speeds}
use Rattle.yds_ratios.proofs.optimal_available_of_two_speeds.Goals as goal

pub returns : goal.returns
returns c = optimal_available_of_two_speeds
