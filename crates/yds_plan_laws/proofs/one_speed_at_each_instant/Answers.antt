use Rattle.yds_plan_laws.proofs.Instants.{one_speed_at_each_instant}
use Rattle.yds_plan_laws.proofs.one_speed_at_each_instant.Goals as goal

pub returns : goal.returns
returns c = one_speed_at_each_instant
