use Rattle.yds_model.proofs.Common.{refl}
use Rattle.yds_port.proofs.Putting.{puts_whole, puts_failed, puts_front, puts_after, whole_after}
use Rattle.document_text.proofs.printing.print.Goals as goal

pub returns-in_err-print_plan-clause-puts : goal.returns-in_err-print_plan-clause-puts
returns-in_err-print_plan-clause-puts g c =
    let failed = c.from_residual.ensures.0 in
    puts_front _ _ failed (puts_front _ _ failed (puts_failed _ failed refl c.in_err-print_plan.ensures))

pub returns-in_err-print-clause-puts : goal.returns-in_err-print-clause-puts
returns-in_err-print-clause-puts g c =
    let failed = c.from_residual-in_err-print.ensures.0 in
    puts_front _ _ failed (puts_after _ (puts_whole refl c.in_ok-print_plan.ensures) (puts_failed _ failed refl c.in_err-print.ensures))

pub returns-clause-puts : goal.returns-clause-puts
returns-clause-puts g c =
    puts_after _ (whole_after (puts_whole refl c.in_ok-print_plan.ensures) (puts_whole refl c.in_ok-print.ensures)) c.print-2.ensures
