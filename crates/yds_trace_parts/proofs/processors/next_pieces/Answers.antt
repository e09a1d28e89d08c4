use Rattle.base.proofs.Common.{err_from_is_err_and}
use Rattle.yds_trace_parts.proofs.Loops.{next_first, next_at, next_halts_at, next_end}
use Rattle.yds_trace_parts.proofs.processors.next_pieces.Goals as goal

pub loop-one-init : goal.loop-one-init
loop-one-init c = next_first c.args.strict c.args.pass.now c.args.shown.now c.args.processors.now _ c.requires c.new.ensures.items c.new-2.ensures.items

pub loop-one-preserved : goal.loop-one-preserved
loop-one-preserved c =
    next_at c.args.strict c.args.pass.now c.loop-one.pass c.piece_on.new.pass c.args.shown.now c.args.processors.now c.loop-one.one-index _
    c.in_ok-piece.piece c.loop-one.pieces c.add.new.self c.loop-one-test.true (λ asked past boundary at. c.in_ok-piece.ensures.turned asked past boundary at)
    (λ asked past boundary at shows later due. c.in_ok-piece.ensures.made asked past boundary at shows later due)
    c.in_ok-add.ensures.text c.in_ok-add.ensures.processors c.loop-one.invariant

pub returns-in_err-piece-clause-halts : goal.returns-in_err-piece-clause-halts
returns-in_err-piece-clause-halts c = λ asked past boundary at shows later due.
    let told = err_from_is_err_and c.from_residual.result c.from_residual.ensures.1 in
    rw (told.1, told.2)
    (next_halts_at asked c.args.strict past boundary c.args.pass.now c.loop-one.pass c.args.shown.now c.args.processors.now c.loop-one.one-index _
    c.loop-one.pieces _ c.loop-one-test.true c.loop-one.invariant
    (λ words lines before stands seen behind looks. c.in_err-piece.ensures.halts words lines before stands seen behind looks) at shows later due)

pub returns-clause-made : goal.returns-clause-made
returns-clause-made c = λ asked past boundary at shows later due.
    next_end asked c.args.strict past boundary c.args.processors.now c.loop-one.one-index c.loop-one.pieces c.loop-one-test.false
    (c.loop-one.invariant.far asked past boundary at shows later due)
