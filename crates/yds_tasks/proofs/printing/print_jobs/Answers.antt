use Rattle.yds_model.proofs.Common.{ap, level_comment}
use Rattle.yds_port.proofs.Putting.{puts_whole, puts_text, puts_failed, puts_front, puts_after}
use Rattle.yds_tasks.proofs.Printed.{lines_told}
use Rattle.yds_tasks.proofs.printing.print_jobs.Goals as goal

pub returns-in_err-print_tasks-clause-puts : goal.returns-in_err-print_tasks-clause-puts
returns-in_err-print_tasks-clause-puts g c =
    let failed = c.from_residual.ensures.0 in
    puts_front _ _ failed (puts_failed _ failed (lines_told c.args.tasks.now _ _ c.tasks.ensures.tasks c.horizon.ensures.value) c.in_err-print_tasks.ensures)

pub returns-clause-puts : goal.returns-clause-puts
returns-clause-puts g c =
    puts_after _ (puts_whole (lines_told c.args.tasks.now _ _ c.tasks.ensures.tasks c.horizon.ensures.value) c.in_ok-print_tasks.ensures)
    (puts_text (ap level_comment c.one_level.ensures) c.print_level.ensures)
