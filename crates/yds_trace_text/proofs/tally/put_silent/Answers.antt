use Rattle.base.proofs.Common.{◌≡◌, ◌∙◌, ◌++◌, ℕ, List, OnOk, ap, refl, subst}
use Rattle.yds_trace_text.specs.Text.{comment}
use Rattle.yds_trace_text.proofs.Read.{next_same}
use Rattle.yds_trace_text.proofs.tally.put_silent.Goals as goal

pub returns : goal.returns
returns c =
    subst (λ (line : List ℕ). OnOk c.put_comment.result (c.put_comment.new.text.items ≡ c.args.text.now.items ++ line))
    (ap comment (next_same c.no_line_of_text.ensures (next_same (c.as_slice.ensures.value ∙ c.in_ok-processor.ensures) (next_same c.as_slice-2.ensures
    (next_same (c.as_slice-3.ensures.value ∙ c.in_ok-lasted.ensures) (next_same c.as_slice-4.ensures
    (next_same (c.as_slice-5.ensures.value ∙ c.in_ok-since.ensures) (next_same c.on_to_the_end.ensures (next_same c.as_slice-6.ensures refl)))))))))
    c.put_comment.ensures
