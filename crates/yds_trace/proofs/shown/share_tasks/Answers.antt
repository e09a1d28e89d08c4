use Rattle.base.proofs.Common.{arith}
use Rattle.yds_trace.specs.Following.{Shares}
use Rattle.yds_trace.specs.Views.{asked_read}
use Rattle.yds_trace.proofs.Copying.{each_more}
use Rattle.yds_trace.proofs.shown.share_tasks.Goals as goal

pub loop-task-preserved : goal.loop-task-preserved
loop-task-preserved c = record {
  many = omega (arith, c.in_ok-push.ensures.len, c.loop-task.invariant.many);
  each = each_more (Shares (asked_read c.args.asked.now)) c.args.tasks.now c.loop-task.all.items _ _ c.loop-task.task-index c.task-item.result
      (omega arith) (omega (arith, c.loop-task.invariant.many, c.loop-task.all.ok.0)) c.in_ok-push.ensures.items c.task-item.is
      c.in_ok-shared.ensures c.loop-task.invariant.each;
}

pub returns-clause-each : goal.returns-clause-each
returns-clause-each c = λ number default was within. c.loop-task.invariant.each number default was (omega arith)
