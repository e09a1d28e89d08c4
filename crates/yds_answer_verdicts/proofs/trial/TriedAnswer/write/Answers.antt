use Rattle.yds_model.proofs.Common.{◌∙◌, ap, refl, line, peak_words}
use Rattle.yds_port.proofs.Putting.{puts_whole, puts_failed, puts_front, puts_after, whole_after}
use Rattle.yds_answer_verdicts.proofs.trial.TriedAnswer.write.Goals as goal

pub returns-in_err-write_counts : goal.returns-in_err-write_counts
returns-in_err-write_counts g c =
    let failed = c.from_residual.ensures.0 in
    puts_front _ _ failed (puts_front _ _ failed (puts_failed _ failed refl c.in_err-write_counts.ensures))

pub returns-in_err-write_all : goal.returns-in_err-write_all
returns-in_err-write_all g c =
    let failed = c.from_residual-in_err-write_all.ensures.0 in
    puts_front _ _ failed (puts_after _ (puts_whole refl c.in_ok-write_counts.ensures)
    (puts_failed _ failed (c.as_bytes.ensures ∙ c.peak_line.ensures ∙ ap (λ levels. line (peak_words levels)) c.levels.ensures.value) c.in_err-write_all.ensures.puts))

pub returns : goal.returns
returns g c =
    puts_after _ (whole_after (puts_whole refl c.in_ok-write_counts.ensures)
    (puts_whole (c.as_bytes.ensures ∙ c.peak_line.ensures ∙ ap (λ levels. line (peak_words levels)) c.levels.ensures.value) c.in_ok-write_all.ensures.puts)) c.write_all-2.ensures.puts
