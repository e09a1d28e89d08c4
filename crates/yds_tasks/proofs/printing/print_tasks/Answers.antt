use Rattle.yds_model.proofs.Common.{refl, sym}
use Rattle.yds_port.proofs.Putting.{item_put, item_failed, all_put}
use Rattle.yds_tasks.specs.Printed.{task_lines}
use Rattle.yds_tasks.specs.Read.{task_read}
use Rattle.yds_tasks.proofs.printing.print_tasks.Goals as goal

pub returns-in_err-print_task : goal.returns-in_err-print_task
returns-in_err-print_task g c =
    item_failed (λ task. task_lines c.args.horizon (task_read task)) c.args.tasks.now c.task-item.result _ c.from_residual.ensures.0 c.loop-task-test.true
    (sym c.task-item.is) refl c.loop-task.invariant c.in_err-print_task.ensures

pub loop-task-preserved : goal.loop-task-preserved
loop-task-preserved g c =
    item_put (λ task. task_lines c.args.horizon (task_read task)) c.args.tasks.now c.task-item.result c.loop-task-test.true
    (sym c.task-item.is) refl c.loop-task.invariant c.in_ok-print_task.ensures

pub returns : goal.returns
returns g c = all_put (λ task. task_lines c.args.horizon (task_read task)) c.args.tasks.now c.loop-task-test.false c.loop-task.invariant
