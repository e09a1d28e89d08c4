use Rattle.base.proofs.Common.{◌≡◌, ℕ, List, ◌∷◌, None, refl, sym, ap, subst, arith, le_refl, length, err_from_is_err_and}
use Rattle.yds_trace.specs.Asked.{Asked, on}
use Rattle.yds_trace.specs.Kept.{IsAtBehind, told_to_forget}
use Rattle.yds_trace.specs.Shown.{IsShown}
use Rattle.yds_trace.proofs.OnProcessor.{shown_on}
use Rattle.yds_trace_parts.specs.declared.processors.Processor.{Processor}
use Rattle.yds_trace_parts.specs.Telling.{IsHaltFor, IsTurned, pieces_at, ArePieces, NoneEndsBefore, cuts_of, IsLatest}
use Rattle.yds_trace_parts.proofs.Behind.{of_told, of_unseen, behind_line}
use Rattle.yds_trace_parts.proofs.Parting.{memory_halts}
use Rattle.yds_trace_parts.proofs.Plain.{look_shown, look_moved}
use Rattle.yds_trace_parts.proofs.Taking.{pieces_add, pieces_forgotten, pieces_halted, halts_for_none}
use Rattle.yds_trace_parts.proofs.telling.Telling.write.Goals as goal

pub next_pieces-requires : goal.next_pieces-requires
next_pieces-requires c =
    look_shown (told_to_forget c.args.self.now.pass) c.args.self.now.pass c.in_ok-shown.shown c.requires
    (λ words past at. c.in_ok-shown.ensures words past (told_to_forget c.args.self.now.pass) at)

pub unseen_behind-requires : goal.unseen_behind-requires
unseen_behind-requires c =
    look_moved c.args.self.now.pass c.next_pieces.new.pass c.in_ok-shown.shown
    (look_shown (told_to_forget c.args.self.now.pass) c.args.self.now.pass c.in_ok-shown.shown c.requires
    (λ words past at. c.in_ok-shown.ensures words past (told_to_forget c.args.self.now.pass) at))
    (λ asked past boundary at. c.in_ok-pieces.ensures.turned asked past boundary at)

pub returns-in_err-shown-clause-halts : goal.returns-in_err-shown-clause-halts
returns-in_err-shown-clause-halts c = λ asked strict past said is due.
    let p = err_from_is_err_and c.from_residual.result c.from_residual.ensures.1 in
    rw p.1 (memory_halts _ _ p.2)

pub returns-in_err-pieces-clause-halts : goal.returns-in_err-pieces-clause-halts
returns-in_err-pieces-clause-halts c = λ asked strict past said is due.
    let told = err_from_is_err_and c.from_residual-in_err-pieces.result c.from_residual-in_err-pieces.ensures.1 in
    let time = told_to_forget c.args.self.now.pass in
    let shown : IsShown asked (said ∷ past) time c.in_ok-shown.shown = c.in_ok-shown.ensures asked (said ∷ past) time is.stands in
    let none : NoneEndsBefore time (cuts_of c.deref.result.now None) =
    subst (λ (ones : List Processor). NoneEndsBefore time (cuts_of ones None)) (sym c.deref.ensures.value)
    (of_told time c.args.self.now.processors.items c.args.self.now.unseen is.is_written.later.1) in
    rw (told.1, told.2) (pieces_halted asked strict past said c.args.self.now _ is
    (subst (λ (ones : List Processor). IsHaltFor (pieces_at asked c.args.self.now.strict (said ∷ past) ones).halt c.in_err-pieces.field-0.0) c.deref.ensures.value
    (c.in_err-pieces.ensures.halts asked (said ∷ past) time is.stands shown none due)))

pub returns-in_err-unseen-clause-halts : goal.returns-in_err-unseen-clause-halts
returns-in_err-unseen-clause-halts c = λ asked strict past said is due.
    let told = err_from_is_err_and c.from_residual-in_err-unseen.result c.from_residual-in_err-unseen.ensures.1 in
    rw (told.1, told.2) (halts_for_none _ _ c.in_err-unseen.ensures.halts)

pub returns-clause-adds : goal.returns-clause-adds
returns-clause-adds c = λ asked strict past said is due.
    let time = told_to_forget c.args.self.now.pass in
    let shown : IsShown asked (said ∷ past) time c.in_ok-shown.shown = c.in_ok-shown.ensures asked (said ∷ past) time is.stands in
    let none : NoneEndsBefore time (cuts_of c.deref.result.now None) =
    subst (λ (ones : List Processor). NoneEndsBefore time (cuts_of ones None)) (sym c.deref.ensures.value)
    (of_told time c.args.self.now.processors.items c.args.self.now.unseen is.is_written.later.1) in
    let made : ArePieces asked c.args.self.now.strict (said ∷ past) c.args.self.now.processors.items c.in_ok-pieces.pieces =
    subst (λ (ones : List Processor). ArePieces asked c.args.self.now.strict (said ∷ past) ones c.in_ok-pieces.pieces) c.deref.ensures.value
    (c.in_ok-pieces.ensures.made asked (said ∷ past) time is.stands shown none due) in
    pieces_add asked strict past said c.args.self.now c.in_ok-pieces.pieces is made

pub returns-clause-told : goal.returns-clause-told
returns-clause-told c = λ asked strict past said is due.
    let time = told_to_forget c.args.self.now.pass in
    let shown : IsShown asked (said ∷ past) time c.in_ok-shown.shown = c.in_ok-shown.ensures asked (said ∷ past) time is.stands in
    let none : NoneEndsBefore time (cuts_of c.deref.result.now None) =
    subst (λ (ones : List Processor). NoneEndsBefore time (cuts_of ones None)) (sym c.deref.ensures.value)
    (of_told time c.args.self.now.processors.items c.args.self.now.unseen is.is_written.later.1) in
    let made : ArePieces asked c.args.self.now.strict (said ∷ past) c.args.self.now.processors.items c.in_ok-pieces.pieces =
    subst (λ (ones : List Processor). ArePieces asked c.args.self.now.strict (said ∷ past) ones c.in_ok-pieces.pieces) c.deref.ensures.value
    (c.in_ok-pieces.ensures.made asked (said ∷ past) time is.stands shown none due) in
    let turned : IsTurned asked (said ∷ past) time c.next_pieces.new.pass = c.in_ok-pieces.ensures.turned asked (said ∷ past) time is.stands in
    let after = c.in_ok-unseen.ensures.turned (on turned.processor asked) (said ∷ past) time turned.stands in
    let back = c.turn_to.ensures.stands (on after.processor (on turned.processor asked)) (said ∷ past) time after.stands in
    let counted : c.len-next.result ≡ length c.in_ok-pieces.pieces.processors.items = omega (arith, c.len-next.ensures) in
    let home : c.asked.result.now.processor ≡ asked.processor = ap (λ (words : Asked). words.processor) (c.asked.ensures asked (said ∷ past) time is.stands) in
    let unseen = c.in_ok-unseen.ensures.made (on turned.processor asked) (said ∷ past) time turned.stands
    (shown_on asked turned.processor (said ∷ past) time time c.in_ok-shown.shown (le_refl time) shown)
    (of_unseen time c.args.self.now.processors.items c.args.self.now.unseen is.is_written.later.1) due in
    pieces_forgotten asked strict past said c.args.self.now _ c.in_ok-pieces.pieces c.turn_to.new.self c.least_boundary-least.result is made
    (behind_line asked c.args.self.now.strict past said time c.args.self.now.processors.items c.args.self.now.unseen c.args.self.now.latest c.in_ok-pieces.pieces
    c.len-next.result c.in_ok-unseen.unseen is.is_written made counted unseen)
    (subst (λ (ones : List Processor). IsLatest (cuts_of ones c.in_ok-unseen.unseen) c.latest_of-latest.result) c.deref-2.ensures.value c.latest_of-latest.ensures.latest)
    (subst (λ (number : ℕ). IsAtBehind (on number asked) (said ∷ past) time c.turn_to.new.self) home back)
    (rw c.deref-2.ensures.value at c.latest_of-latest.ensures.last)
    (rw c.deref-3.ensures.value at c.least_boundary-least.ensures.least)
    c.least_boundary-least.ensures.before
    (rw c.deref-3.ensures.value at c.least_boundary-least.ensures.first)
    (λ words lines before at within. c.forget.ensures.stands words lines before at within)
    c.forget.ensures.forgets refl
