use Rattle.base.proofs.Common.{◌≡◌, ◌∙◌, ◌+◌, ◌++◌, ℕ, List, OnOk, ap, refl, sym, subst, decimal, length-map}
use Rattle.yds_kernel.specs.Parts.{capped}
use Rattle.yds_trace_document.specs.Views.{written_read}
use Rattle.yds_trace_text.specs.Text.{comment}
use Rattle.yds_trace_text.proofs.Read.{next_same}
use Rattle.yds_trace_text.proofs.part.put_part_line.Goals as goal

pub returns : goal.returns
returns c =
    subst (λ (line : List ℕ). OnOk c.put_comment.result (c.put_comment.new.text.items ≡ c.args.text.now.items ++ line))
    (ap comment (next_same c.as_slice.ensures
    (next_same (c.as_slice-2.ensures.value ∙ c.in_ok-part.ensures ∙ ap decimal c.capped_sum.ensures)
    (next_same c.as_slice-3.ensures
    (next_same (c.as_slice-4.ensures.value ∙ c.in_ok-first.ensures ∙ ap decimal c.capped_sum-2.ensures)
    (next_same c.as_slice-5.ensures
    (next_same (c.as_slice-6.ensures.value ∙ c.in_ok-end.ensures ∙ ap decimal c.capped_sum-3.ensures
    ∙ ap (λ (number : ℕ). decimal (capped (c.args.cut.jobs + number))) (sym (length-map c.args.jobs.now written_read)))
    (next_same c.as_slice-7.ensures
    (next_same (c.as_slice-8.ensures.value ∙ c.in_ok-release.ensures ∙ ap decimal c.capped_sum-4.ensures
    ∙ ap (λ (number : ℕ). decimal (capped (c.args.shift + number))) c.first_release.ensures)
    (next_same c.as_slice-9.ensures
    (next_same (c.as_slice-10.ensures.value ∙ c.in_ok-deadline.ensures ∙ ap decimal c.capped_sum-5.ensures
    ∙ ap (λ (number : ℕ). decimal (capped (c.args.shift + number))) c.last_deadline.ensures)
    (next_same c.as_slice-11.ensures
    (next_same (c.as_slice-12.ensures.value ∙ c.in_ok-units.ensures)
    (next_same (c.as_slice-13.ensures.value ∙ c.in_ok-processor.ensures)
    (next_same c.windows_text.ensures (next_same c.last_text.ensures refl))))))))))))))))
    c.put_comment.ensures
