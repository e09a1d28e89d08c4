use Rattle.yds_model.proofs.Common.{◌∷◌, [], ◌∙◌, ap, codes, decimal, flat_map, line, piece_line, member_line}
use Rattle.yds_port.proofs.Putting.{puts_whole, puts_text, puts_failed, puts_front, puts_after, whole_after}
use Rattle.document_text.proofs.Batches.{before_none}
use Rattle.document_text.proofs.level.print_level.Goals as goal

pub returns-in_err-write_all : goal.returns-in_err-write_all
returns-in_err-write_all g c =
    let failed = c.from_residual.ensures.0 in
    let level = c.args.level.now in
    let first = before_none {part = line (codes "level" ∷ decimal level.work ∷ decimal level.length ∷ [])} c.put_first.ensures.bytes c.clear.ensures in
    puts_front _ _ failed (puts_front _ _ failed (puts_failed _ failed (c.as_bytes.ensures ∙ first) c.in_err-write_all.ensures.puts))

pub returns-in_err-print : goal.returns-in_err-print
returns-in_err-print g c =
    let failed = c.from_residual-in_err-print.ensures.0 in
    let level = c.args.level.now in
    let first = before_none {part = line (codes "level" ∷ decimal level.work ∷ decimal level.length ∷ [])} c.put_first.ensures.bytes c.clear.ensures in
    puts_front _ _ failed (puts_after _ (puts_whole (c.as_bytes.ensures ∙ first) c.in_ok-write_all.ensures.puts)
    (puts_failed _ failed (ap (flat_map piece_line) (c.deref.ensures.value ∙ ap (λ l. l.pieces) c.level.view_is)) c.in_err-print.ensures))

pub returns : goal.returns
returns g c =
    let level = c.args.level.now in
    let first = before_none {part = line (codes "level" ∷ decimal level.work ∷ decimal level.length ∷ [])} c.put_first.ensures.bytes c.clear.ensures in
    puts_after _ (whole_after (puts_whole (c.as_bytes.ensures ∙ first) c.in_ok-write_all.ensures.puts)
    (puts_whole (ap (flat_map piece_line) (c.deref.ensures.value ∙ ap (λ l. l.pieces) c.level.view_is)) c.in_ok-print.ensures))
    (puts_text (ap (flat_map (member_line c.args.instance.now.names)) (c.deref-2.ensures.value ∙ ap (λ l. l.members) c.level.view_is)) c.print-2.ensures)
