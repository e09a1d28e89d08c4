use Rattle.base.proofs.Common.{List, ℕ, ◌∷◌, arith, sym, subst, err_from_is_err_and}
use Rattle.yds_kernel.specs.Views.{said_read}
use Rattle.yds_trace.specs.Kept.{told_to_forget}
use Rattle.yds_trace_parts.specs.Telling.{Adds}
use Rattle.yds_trace_parts.proofs.Taking.{still_taken, still_adds}
use Rattle.yds_trace_parts.proofs.telling.Telling.take.Goals as goal

pub returns-in_err-take_said-clause-halts : goal.returns-in_err-take_said-clause-halts
returns-in_err-take_said-clause-halts c = λ asked strict past is many.
    let told = err_from_is_err_and c.from_residual.result c.from_residual.ensures.1 in
    rw (told.1, told.2) (c.in_err-take_said.ensures.halts asked strict past is many)

pub returns-then-not-looks-clause-told : goal.returns-then-not-looks-clause-told
returns-then-not-looks-clause-told c = λ asked strict past is many.
    let taken = c.in_ok-take_said.ensures.taken asked strict past is many in
    still_taken asked strict past (said_read c.args.said) c.take_said.new.self taken
    (c.looks.ensures.still asked (said_read c.args.said ∷ past) (told_to_forget c.take_said.new.self.pass) taken.stands (omega (arith, many)) c.if-not-looks.true)

pub returns-then-not-looks-clause-adds : goal.returns-then-not-looks-clause-adds
returns-then-not-looks-clause-adds c = λ asked strict past is many.
    let taken = c.in_ok-take_said.ensures.taken asked strict past is many in
    subst (λ (piece : List ℕ). Adds asked strict past (said_read c.args.said ∷ past) piece) (sym c.new.ensures.items)
    (still_adds asked strict past (said_read c.args.said) c.take_said.new.self taken
    (c.looks.ensures.still asked (said_read c.args.said ∷ past) (told_to_forget c.take_said.new.self.pass) taken.stands (omega (arith, many)) c.if-not-looks.true))

pub returns-clause-told : goal.returns-clause-told
returns-clause-told c = λ asked strict past is many.
    c.write.ensures.told asked strict past (said_read c.args.said) (c.in_ok-take_said.ensures.taken asked strict past is many)
    (c.looks.ensures.due (said_read c.args.said ∷ past) (omega (arith, many)) c.if-not-looks.false)

pub returns-clause-adds : goal.returns-clause-adds
returns-clause-adds c = λ asked strict past is many.
    c.write.ensures.adds asked strict past (said_read c.args.said) (c.in_ok-take_said.ensures.taken asked strict past is many)
    (c.looks.ensures.due (said_read c.args.said ∷ past) (omega (arith, many)) c.if-not-looks.false)

pub returns-clause-halts : goal.returns-clause-halts
returns-clause-halts c = λ asked strict past is many.
    c.write.ensures.halts asked strict past (said_read c.args.said) (c.in_ok-take_said.ensures.taken asked strict past is many)
    (c.looks.ensures.due (said_read c.args.said ∷ past) (omega (arith, many)) c.if-not-looks.false)
