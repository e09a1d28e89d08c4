use Rattle.yds_edf.proofs.Ranked.{are_pending}
use Rattle.yds_edf.proofs.engine.Engine.in_order.Goals as goal

pub returns : goal.returns
returns c = rw (← c.self.view_is) (are_pending c.self.invariant)
