use Rattle.base.proofs.Common.{◌≡◌, ◌||◌, Bool, ◌∙◌, sym, ap, err_from_is_err_and}
use Rattle.yds_trace_parts.proofs.Loops.{last_first, last_at_place, last_halts_at, last_end}
use Rattle.yds_trace_parts.proofs.processors.last_pieces.Goals as goal
use Rattle.yds_trace_parts.proofs.processors.last_pieces.Goals.{then-has_job, else-has_job}

pub loop-one-init : goal.loop-one-init
loop-one-init c = last_first c.args.strict c.args.pass.now c.args.shown.now c.args.processors.now c.new-text.result.items c.requires c.new-text.ensures.items

pub loop-one-preserved : goal.loop-one-preserved
loop-one-preserved c =
    let either : c.if-has_job.has_job ≡ (c.loop-one.has_job || c.in_ok-last.last.has_job) =
    elim c.if-has_job.branch [
      | then-has_job w ↦ w.has_job-is ∙ w.if-has_job.true ∙ sym (ap (λ (b : Bool). b || c.in_ok-last.last.has_job) w.if-has_job.true)
      | else-has_job w ↦ w.has_job-is ∙ sym (ap (λ (b : Bool). b || c.in_ok-last.last.has_job) w.if-has_job.false)
    ] in
    last_at_place c.args.strict c.args.pass.now c.loop-one.pass c.last_on.new.pass c.args.shown.now c.args.processors.now c.loop-one.one-index _
    c.in_ok-last.last c.loop-one.text.items c.extend_from_slice.new.self.items c.loop-one.has_job c.if-has_job.has_job c.loop-one-test.true
    (λ asked past boundary at. c.in_ok-last.ensures.turned asked past boundary at)
    (λ asked past boundary at shows later. c.in_ok-last.ensures.made asked past boundary at shows later)
    (rw c.deref.ensures.value at c.in_ok-extend_from_slice.ensures.items) either c.loop-one.invariant

pub returns-in_err-last-clause-halts : goal.returns-in_err-last-clause-halts
returns-in_err-last-clause-halts c = λ asked past boundary at shows later.
    let told = err_from_is_err_and c.from_residual.result c.from_residual.ensures.1 in
    rw (told.1, told.2)
    (last_halts_at asked c.args.strict past boundary c.args.pass.now c.loop-one.pass c.args.shown.now c.args.processors.now c.loop-one.one-index _
    c.loop-one.text.items c.loop-one.has_job _ c.loop-one-test.true c.loop-one.invariant
    (λ words lines before stands seen behind. c.in_err-last.ensures.halts words lines before stands seen behind) at shows later)

pub returns-clause-made : goal.returns-clause-made
returns-clause-made c = λ asked past boundary at shows later.
    last_end asked c.args.strict past boundary c.args.processors.now c.loop-one.one-index _ c.loop-one-test.false
    (c.loop-one.invariant.far asked past boundary at shows later)
