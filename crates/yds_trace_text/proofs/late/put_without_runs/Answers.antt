use Rattle.base.proofs.Common.{◌≡◌, ◌∙◌, ◌++◌, ℕ, List, OnOk, ap, refl, subst}
use Rattle.yds_trace_text.specs.Text.{comment}
use Rattle.yds_trace_text.proofs.Read.{next_same}
use Rattle.yds_trace_text.proofs.late.put_without_runs.Goals as goal

pub returns : goal.returns
returns c =
    subst (λ (line : List ℕ). OnOk c.put_comment.result (c.put_comment.new.text.items ≡ c.args.text.now.items ++ line))
    (ap comment (next_same c.as_slice.ensures (next_same (c.as_slice-2.ensures.value ∙ c.in_ok-name.ensures) (next_same c.as_slice-3.ensures (next_same c.reason_text.ensures (next_same c.as_slice-4.ensures (next_same c.how_late.ensures (next_same (c.as_slice-5.ensures.value ∙ c.in_ok-behind.ensures) (next_same (c.as_slice-6.ensures.value ∙ c.in_ok-window.ensures) refl)))))))))
    c.put_comment.ensures
