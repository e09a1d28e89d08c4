use Rattle.yds_model.proofs.Common.{◌≡◌, ℕ, List, ◌++◌, ◌∙◌, sym, ap, append_assoc, codes, Option}
use Rattle.yds_trace_text.specs.Text.{in_milliseconds}
use Rattle.yds_trace_run.specs.FaultText.{late_text}
use Rattle.yds_trace_run.proofs.fault_text.push_late.Goals as goal

joined : (front one two three : List ℕ) → ((front ++ one) ++ two) ++ three ≡ front ++ (one ++ two ++ three)
joined front one two three = ap (λ (text : List ℕ). text ++ three) (append_assoc front one two) ∙ append_assoc front (one ++ two) three

pub returns-in-Some-clause-text : goal.returns-in-Some-clause-text
returns-in-Some-clause-text c =
    c.push_str-in-Some-2.ensures.bytes
    ∙ ap (λ (text : List ℕ). text ++ codes " ms") (c.push_milliseconds.ensures.text ∙ ap (λ (text : List ℕ). text ++ in_milliseconds c.in-Some.late) c.push_str-in-Some.ensures.bytes)
    ∙ joined c.args.line.now.bytes (codes "known to be late by ") (in_milliseconds c.in-Some.late) (codes " ms")
    ∙ ap (λ (late : Option ℕ). c.args.line.now.bytes ++ late_text late) (sym c.in-Some.is)
