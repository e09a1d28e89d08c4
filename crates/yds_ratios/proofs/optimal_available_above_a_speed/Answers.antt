use Rattle.yds_ratios.proofs.AboveSpeed.{optimal_available_above_a_speed}
use Rattle.yds_ratios.proofs.optimal_available_above_a_speed.Goals as goal

pub returns : goal.returns
returns c = optimal_available_above_a_speed
