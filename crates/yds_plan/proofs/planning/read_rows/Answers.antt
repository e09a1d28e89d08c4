use Rattle.yds_model.proofs.Common.{arith, take_all, get_or_read, All-more, IsJob, no_job}
use Rattle.yds_plan.proofs.planning.read_rows.Goals as goal

pub loop-row-preserved : goal.loop-row-preserved
loop-row-preserved c = All-more IsJob c.args.rows.now c.loop-row.row-index no_job c.loop-row-test.true c.loop-row.invariant
    (rw (← get_or_read c.args.rows.now c.loop-row.row-index c.row-item.result c.loop-row-test.true c.row-item.is no_job, ← c.row.view_is) c.row.invariant)

pub returns : goal.returns
returns c = rw (take_all c.loop-row.row-index c.args.rows.now (omega (arith, c.loop-row-test.false))) at c.loop-row.invariant
