use Rattle.yds_model.proofs.Common.{refl, ap, flat_map, slot_line, level_lines}
use Rattle.yds_port.proofs.Putting.{puts_whole, puts_text, puts_failed, puts_front, puts_after, whole_after}
use Rattle.document_text.proofs.printing.print_plan.Goals as goal

pub returns-in_err-print_rows : goal.returns-in_err-print_rows
returns-in_err-print_rows g c =
    let failed = c.from_residual.ensures.0 in
    puts_front _ _ failed (puts_front _ _ failed (puts_failed _ failed refl c.in_err-print_rows.ensures))

pub returns-in_err-print : goal.returns-in_err-print
returns-in_err-print g c =
    let failed = c.from_residual-in_err-print.ensures.0 in
    puts_front _ _ failed (puts_after _ (puts_whole refl c.in_ok-print_rows.ensures)
    (puts_failed _ failed (ap (flat_map (slot_line c.args.document.now.instance.names)) c.slots.ensures.value) c.in_err-print.ensures))

pub returns : goal.returns
returns g c =
    let names = c.args.document.now.instance.names in
    puts_after _ (whole_after (puts_whole refl c.in_ok-print_rows.ensures) (puts_whole (ap (flat_map (slot_line names)) c.slots.ensures.value) c.in_ok-print.ensures))
    (puts_text (ap (flat_map (level_lines names)) c.levels.ensures.value) c.print-2.ensures)
