use Rattle.base.proofs.Common.{◌≡◌, ◌∙◌, ◌++◌, List, ℕ, OnOk, append_assoc, refl, ap, subst}
use Rattle.yds_trace.specs.Asked.{Asked}
use Rattle.yds_trace.specs.Views.{asked_read}
use Rattle.yds_trace_document.specs.Settled.{Settled}
use Rattle.yds_trace_document.specs.Views.{settled_read}
use Rattle.yds_trace_text.specs.Text.{head_line, units_line, document_text, comments_text}
use Rattle.yds_trace_text.proofs.writing.put_settled.Goals as goal

regrouped : (old head units rows comments x y z : List ℕ) → x ≡ old ++ head → y ≡ x ++ units → z ≡ y ++ rows →
    z ++ comments ≡ old ++ (head ++ units ++ rows ++ comments)
regrouped old head units rows comments x y z first second third =
    ap (λ (front : List ℕ). front ++ comments) (third ∙ ap (λ (front : List ℕ). front ++ rows) (second ∙ ap (λ (front : List ℕ). front ++ units) first))
    ∙ simp append_assoc refl

pub returns : goal.returns
returns c =
    let asked : Asked = asked_read c.args.asked.now in
    let settled : Settled = settled_read c.args.settled.now in
    subst (λ (all : List ℕ). OnOk c.put_comments.result (c.put_comments.new.text.items ≡ all))
    (regrouped c.args.text.now.items (head_line asked.processor settled.units) (units_line settled.units) (document_text settled) (comments_text asked settled)
    c.put_head.new.text.items c.put_units.new.text.items c.put_document.new.text.items
    c.in_ok-put_head.ensures c.in_ok-put_units.ensures c.in_ok-put_document.ensures)
    c.put_comments.ensures
