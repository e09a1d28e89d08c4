use Rattle.yds_spending.proofs.Spending.{zip_step}
use Rattle.yds_spending.proofs.spent.shares_of.Goals as goal

pub loop-load-preserved : goal.loop-load-preserved
loop-load-preserved c =
    rw (c.in_ok-push.ensures.items)
    (zip_step c.args.table.now c.args.loads.now c.loop-load.shares.items c.loop-load.load-index _ c.of.result c.loop-load-test.true c.loop-load.invariant c.of.ensures)
