use Rattle.yds_model.proofs.Common.{refl}
use Rattle.yds_admit.proofs.rows.Rows.with_capacity.Goals as goal

pub returns : goal.returns
returns c = rw c.in_ok-with_capacity.ensures.items refl
