use Rattle.base.proofs.Common.{refl, err_from_is_err_and}
use Rattle.yds_trace.specs.Views.{asked_read}
use Rattle.yds_trace_parts.proofs.Parting.{memory_halts, text_alone_is}
use Rattle.yds_trace_parts.proofs.part.last_part.Goals as goal

pub returns-in_err-waiting-clause-halts : goal.returns-in_err-waiting-clause-halts
returns-in_err-waiting-clause-halts c =
    let p = err_from_is_err_and c.from_residual.result c.from_residual.ensures.1 in
    λ past shown. rw p.1 (memory_halts _ _ p.2)

pub returns-in_err-part-clause-halts : goal.returns-in_err-part-clause-halts
returns-in_err-part-clause-halts c =
    let p = err_from_is_err_and c.from_residual-in_err-part.result c.from_residual-in_err-part.ensures.1 in
    λ past shown. rw p.1 (memory_halts _ _ p.2)

pub returns-in_err-text-clause-halts : goal.returns-in_err-text-clause-halts
returns-in_err-text-clause-halts c past shown =
    let told = err_from_is_err_and c.from_residual-in_err-text.result c.from_residual-in_err-text.ensures.1 in
    let is = c.in_ok-part.ensures past c.args.cut shown.first (c.in_ok-waiting.ensures past c.args.cut refl shown) in
    rw (told.1, told.2) (c.in_err-text.ensures.halts past is)

pub returns-clause-made : goal.returns-clause-made
returns-clause-made c past shown =
    let is = c.in_ok-part.ensures past c.args.cut shown.first (c.in_ok-waiting.ensures past c.args.cut refl shown) in
    record {
      written = text_alone_is (asked_read c.args.asked.now) c.args.strict past c.args.cut _ _ (c.in_ok-text.ensures.made past is);
      some = c.has_written-has_job.ensures (asked_read c.args.asked.now) past is;
    }
