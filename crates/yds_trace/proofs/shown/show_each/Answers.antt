use Rattle.base.proofs.Common.{arith}
use Rattle.yds_trace.specs.Following.{Shows}
use Rattle.yds_trace.proofs.Copying.{each_more}
use Rattle.yds_trace.proofs.shown.show_each.Goals as goal

pub loop-followed-preserved : goal.loop-followed-preserved
loop-followed-preserved c = record {
  many = omega (arith, c.in_ok-push.ensures.len, c.loop-followed.invariant.many);
  each = λ start counting is.
      each_more (Shows c.args.until start counting) c.args.tasks.now c.loop-followed.shown.items _ _ c.loop-followed.followed-index c.followed-item.result
      (omega arith) (omega (arith, c.loop-followed.invariant.many, c.loop-followed.shown.ok.0)) c.in_ok-push.ensures.items c.followed-item.is
      (c.in_ok-show.ensures start counting is) (c.loop-followed.invariant.each start counting is);
}

pub returns-clause-each : goal.returns-clause-each
returns-clause-each c = λ start counting is number default kept within. c.loop-followed.invariant.each start counting is number default kept (omega arith)
