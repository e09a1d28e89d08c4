use Rattle.base.proofs.Common.{◌∙◌, ◌++◌, ℕ, List, [], ap, ap₂, refl}
use Rattle.yds_trace_text.specs.Text.{told}
use Rattle.yds_trace_text.proofs.Read.{next_same}
use Rattle.yds_trace_text.proofs.last.late_without.Goals as goal

pub returns : goal.returns
returns c =
    c.in_ok-put.ensures
    ∙ ap₂ (λ (front more : List ℕ). front ++ more) c.new-text.ensures.items
    (ap told (next_same c.as_slice.ensures (next_same (c.as_slice-2.ensures.value ∙ c.in_ok-digits.ensures) (next_same c.as_slice-3.ensures
    (next_same c.its_or_their.ensures (next_same {xs = []} c.as_slice-4.ensures refl))))))
