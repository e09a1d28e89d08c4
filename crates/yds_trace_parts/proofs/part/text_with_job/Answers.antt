use Rattle.base.proofs.Common.{◌≡◌, ◌==◌, ℕ, zero, suc, ◌≤◌, false, length, Option, Some, IfErr, sym, ap, ◌∙◌, subst, arith, length-map}
use Rattle.yds_trace.specs.Parts.{part_until}
use Rattle.yds_trace.specs.Views.{asked_read}
use Rattle.yds_trace_document.specs.Settled.{Settled}
use Rattle.yds_trace_document.specs.Views.{judged_read}
use Rattle.yds_trace_parts.specs.Telling.{IsHaltFor}
use Rattle.yds_trace_parts.specs.Told.{Halt}
use Rattle.yds_trace_parts.proofs.Parting.{with_job_halts}
use Rattle.yds_trace_parts.proofs.part.text_with_job.Goals as goal

-- not none
some_more : (many : ℕ) {n : ℕ} → (many == 0) ≡ false → n ≡ many → 1 ≤ n
some_more zero is same = absurd cc
some_more (suc many) is same = omega (arith, same)

pub returns-clause-halts : goal.returns-clause-halts
returns-clause-halts c past is =
    let as_many : length (part_until (asked_read c.args.asked.now) past c.args.cut (Some c.args.time)) ≡ length c.args.part.now.settled.judged.items =
    sym (ap (λ (settled : Settled). length settled.judged) is.settled) ∙ length-map c.args.part.now.settled.judged.items judged_read in
    let some : 1 ≤ length (part_until (asked_read c.args.asked.now) past c.args.cut (Some c.args.time)) =
    some_more c.args.part.now.settled.judged.len (sym c.is_empty.ensures ∙ c.if-is_empty.false) (as_many ∙ sym c.args.part.now.settled.judged.ok.0) in
    subst (λ (found : Option Halt). IfErr c.text_of.result (IsHaltFor found))
    (sym (with_job_halts (asked_read c.args.asked.now) c.args.strict past c.args.cut c.args.time (part_until (asked_read c.args.asked.now) past c.args.cut (Some c.args.time)) some))
    (c.text_of.ensures.halts past is)
