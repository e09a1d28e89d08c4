use Rattle.yds_model.proofs.Common.{◌∙◌, refl}
use Rattle.yds_port.proofs.Putting.{puts_whole, puts_text, puts_failed, puts_front, puts_after}
use Rattle.yds_answer_points.proofs.compare.write_policy.Goals as goal

pub returns-in_err-write_side : goal.returns-in_err-write_side
returns-in_err-write_side g c =
    let failed = c.from_residual.ensures.0 in
    puts_front _ _ failed (puts_failed _ failed refl c.in_err-write_side.ensures)

pub returns : goal.returns
returns g c = puts_after _ (puts_whole refl c.in_ok-write_side.ensures) (puts_text (c.as_bytes.ensures ∙ c.rounded_line.ensures) c.write_all.ensures.puts)
