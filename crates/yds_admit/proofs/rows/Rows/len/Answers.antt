use Rattle.yds_model.proofs.Common.{arith}
use Rattle.yds_admit.proofs.Listed.{row_count}
use Rattle.yds_admit.proofs.rows.Rows.len.Goals as goal

pub returns : goal.returns
returns c = omega (arith, c.len.ensures, row_count c.self.inside.releases.items c.self.inside.deadlines.items c.self.inside.works.items c.args.self.now c.self.invariant c.self.view_is)
