use Rattle.yds_model.proofs.Common.{refl, ap, flat_map, point_line}
use Rattle.yds_port.proofs.Putting.{puts_whole, puts_text, puts_failed, puts_front, puts_after}
use Rattle.document_text.proofs.printing.print_rows.Goals as goal

pub returns-in_err-print : goal.returns-in_err-print
returns-in_err-print g c =
    let failed = c.from_residual.ensures.0 in
    puts_front _ _ failed (puts_failed _ failed refl c.in_err-print.ensures)

pub returns : goal.returns
returns g c =
    puts_after _ (puts_whole refl c.in_ok-print.ensures) (puts_text (ap (flat_map point_line) c.points_in.ensures.value) c.print-2.ensures)
