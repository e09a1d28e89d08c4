use Rattle.yds_laws.proofs.Bound.{served_at_speed}
use Rattle.yds_laws.proofs.laws.served_at_speed.Goals as goal

pub returns : goal.returns
returns c = served_at_speed
