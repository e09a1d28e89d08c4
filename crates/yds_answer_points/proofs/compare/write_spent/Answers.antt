use Rattle.yds_model.proofs.Common.{◌∙◌, ◌∷◌, [], List, ap, codes, flat_map, zip, Fraction, line, fraction_text, Spent}
use Rattle.yds_port.proofs.Putting.{puts_whole, puts_text, puts_failed, puts_front, puts_after}
use Rattle.yds_answer_points.specs.Compare.{time_line}
use Rattle.yds_answer_points.proofs.compare.write_spent.Goals as goal

pub returns-in_err-write_all : goal.returns-in_err-write_all
returns-in_err-write_all g c =
    let failed = c.from_residual.ensures.0 in
    puts_front _ _ failed (puts_failed _ failed
    (c.as_bytes.ensures ∙ c.energy_line.ensures ∙ ap (λ (s : Spent). line (c.args.name.now ∷ codes "energy" ∷ fraction_text s.energy ∷ [])) c.spent.view_is)
    c.in_err-write_all.ensures.puts)

pub returns : goal.returns
returns g c =
    puts_after _ (puts_whole
    (c.as_bytes.ensures ∙ c.energy_line.ensures ∙ ap (λ (s : Spent). line (c.args.name.now ∷ codes "energy" ∷ fraction_text s.energy ∷ [])) c.spent.view_is)
    c.in_ok-write_all.ensures.puts)
    (puts_text (ap (λ (times : List Fraction). flat_map (time_line c.args.name.now) (zip c.args.table.now times)) (c.deref.ensures.value ∙ ap (λ (s : Spent). s.times) c.spent.view_is))
    c.write_times.ensures)
