use Rattle.yds_model.proofs.Common.{[], ◌∷◌, ◌∙◌, ap, length, List, ℕ, codes, decimal, line}
use Rattle.yds_port.proofs.Putting.{puts_whole, puts_text, puts_failed, puts_front, puts_after, whole_after}
use Rattle.yds_answer_verdicts.proofs.trial.write_counts.Goals as goal

abbrev counted : List ℕ → ℕ → List ℕ
counted what count = line (what ∷ decimal count ∷ [])

pub returns-in_err-write_all : goal.returns-in_err-write_all
returns-in_err-write_all g c =
    let failed = c.from_residual.ensures.0 in
    puts_front _ _ failed (puts_front _ _ failed (puts_failed _ failed (c.as_bytes.ensures ∙ c.count_line.ensures) c.in_err-write_all.ensures.puts))

pub returns-in_err-write_all-2 : goal.returns-in_err-write_all-2
returns-in_err-write_all-2 g c =
    let failed = c.from_residual-in_err-write_all-2.ensures.0 in
    puts_front _ _ failed (puts_after _ (puts_whole (c.as_bytes.ensures ∙ c.count_line.ensures) c.in_ok-write_all.ensures.puts)
    (puts_failed _ failed (c.as_bytes-2.ensures ∙ c.count_line-2.ensures ∙ ap (λ levels. counted (codes "levels") (length levels)) c.levels-levels.ensures.value)
    c.in_err-write_all-2.ensures.puts))

pub returns : goal.returns
returns g c =
    puts_after _ (whole_after (puts_whole (c.as_bytes.ensures ∙ c.count_line.ensures) c.in_ok-write_all.ensures.puts)
    (puts_whole (c.as_bytes-2.ensures ∙ c.count_line-2.ensures ∙ ap (λ levels. counted (codes "levels") (length levels)) c.levels-levels.ensures.value) c.in_ok-write_all-2.ensures.puts))
    (puts_text (c.as_bytes-3.ensures ∙ c.count_line-3.ensures ∙ ap (λ slots. counted (codes "slots") (length slots)) c.slots-slots.ensures.value) c.write_all-3.ensures.puts)
