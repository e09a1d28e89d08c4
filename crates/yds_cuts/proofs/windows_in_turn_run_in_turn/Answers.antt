use Rattle.yds_cuts.proofs.Above.{windows_in_turn_run_in_turn}
use Rattle.yds_cuts.proofs.windows_in_turn_run_in_turn.Goals as goal

pub returns : goal.returns
returns c = windows_in_turn_run_in_turn
