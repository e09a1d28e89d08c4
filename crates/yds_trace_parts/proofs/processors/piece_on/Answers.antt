use Rattle.base.proofs.Common.{IfOk, IfErr, subst, err_from_is_err_and}
use Rattle.yds_trace.specs.Asked.{Asked, on}
use Rattle.yds_trace_parts.specs.Telling.{IsPiece, HaltsBehind}
use Rattle.yds_trace_parts.proofs.Parting.{memory_halts}
use Rattle.yds_trace_parts.proofs.Plain.{look_turned, look_plain, shares_or, shared_on}
use Rattle.yds_trace_parts.proofs.processors.piece_on.Goals as goal

pub next_piece-requires : goal.next_piece-requires
next_piece-requires c =
    look_plain c.asked-asked.result.now c.turn_to.new.self c.args.shown.now c.unwrap_or-shares.result.now
    (look_turned c.args.one.number c.args.pass.now c.turn_to.new.self c.args.shown.now c.requires (λ asked past boundary at. c.turn_to.ensures.stands asked past boundary at))
    (λ words past boundary at. c.asked-asked.ensures words past boundary at)
    (shares_or c.asked-asked.result.now c.as_ref.result c.in_ok-own.own c.args.shown c.unwrap_or-shares.result c.as_ref.ensures.value c.unwrap_or-shares.ensures
    (λ past boundary shows. c.in_ok-own.ensures past boundary shows))

pub returns-in_err-own-clause-halts : goal.returns-in_err-own-clause-halts
returns-in_err-own-clause-halts c =
    let p = err_from_is_err_and c.from_residual.result c.from_residual.ensures.1 in
    λ asked past boundary at shows later due. rw p.1 (memory_halts _ _ p.2)

pub returns-clause-made : goal.returns-clause-made
returns-clause-made c asked past boundary at shows later due =
    let stands = c.turn_to.ensures.stands asked past boundary at in
    let same = c.asked-asked.ensures (on c.args.one.number asked) past boundary stands in
    subst (λ (words : Asked). IfOk c.next_piece.result (IsPiece words c.args.strict past c.args.one.cut)) same
    (c.next_piece.ensures.made past
    (shared_on asked c.asked-asked.result.now c.args.one.number past boundary c.args.one.cut.boundary c.args.shown.now c.unwrap_or-shares.result.now
    (shares_or c.asked-asked.result.now c.as_ref.result c.in_ok-own.own c.args.shown c.unwrap_or-shares.result c.as_ref.ensures.value c.unwrap_or-shares.ensures
    (λ lines before shown. c.in_ok-own.ensures lines before shown)) same later shows) due)

pub returns-clause-halts : goal.returns-clause-halts
returns-clause-halts c asked past boundary at shows later due =
    let stands = c.turn_to.ensures.stands asked past boundary at in
    let same = c.asked-asked.ensures (on c.args.one.number asked) past boundary stands in
    subst (λ (words : Asked). IfErr c.next_piece.result (HaltsBehind words c.args.strict past c.args.one.cut)) same
    (c.next_piece.ensures.halts past
    (shared_on asked c.asked-asked.result.now c.args.one.number past boundary c.args.one.cut.boundary c.args.shown.now c.unwrap_or-shares.result.now
    (shares_or c.asked-asked.result.now c.as_ref.result c.in_ok-own.own c.args.shown c.unwrap_or-shares.result c.as_ref.ensures.value c.unwrap_or-shares.ensures
    (λ lines before shown. c.in_ok-own.ensures lines before shown)) same later shows) due)
