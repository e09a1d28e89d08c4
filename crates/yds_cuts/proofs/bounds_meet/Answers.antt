use Rattle.yds_cuts.proofs.BothBounds.{bounds_meet}
use Rattle.yds_cuts.proofs.bounds_meet.Goals as goal

pub returns : goal.returns
returns c = bounds_meet
