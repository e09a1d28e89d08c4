use Rattle.base.proofs.Common.{◌≡◌, ◌∙◌, ◌++◌, ℕ, List, OnOk, ap, refl, subst}
use Rattle.yds_trace_text.specs.Text.{comment}
use Rattle.yds_trace_text.proofs.Read.{next_same}
use Rattle.yds_trace_text.proofs.wrong_unit.put_without_period.Goals as goal

pub returns : goal.returns
returns c =
    subst (λ (line : List ℕ). OnOk c.put_comment.result (c.put_comment.new.text.items ≡ c.args.text.now.items ++ line))
    (ap comment (next_same (c.as_slice.ensures.value ∙ c.in_ok-label.ensures.items ∙ c.deref.ensures.value) (next_same c.as_slice-2.ensures (next_same (c.as_slice-3.ensures.value ∙ c.in_ok-begins.ensures)
    (next_same c.as_slice-4.ensures (next_same (c.as_slice-5.ensures.value ∙ c.in_ok-mean.ensures) (next_same c.as_slice-6.ensures
    (next_same (c.as_slice-7.ensures.value ∙ c.in_ok-deadline.ensures) (next_same c.as_slice-8.ensures refl)))))))))
    c.put_comment.ensures
