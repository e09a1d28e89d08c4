use Rattle.base.proofs.Common.{refl, sym, subst, ℕ, err_from_is_err_and}
use Rattle.yds_kernel.specs.Views.{said_read}
use Rattle.yds_trace.specs.Kept.{told_to_forget}
use Rattle.yds_trace.specs.Past.{next_processor}
use Rattle.yds_trace_parts.specs.Plain.{IsPlainPass}
use Rattle.yds_trace_parts.proofs.Parting.{memory_halts}
use Rattle.yds_trace_parts.proofs.Plain.{room_taken}
use Rattle.yds_trace_parts.proofs.Taking.{taken_so, at_latest, grown_of, line_halted}
use Rattle.yds_trace_parts.proofs.telling.Telling.take_said.Goals as goal

pub returns-in_err-take_line-clause-halts : goal.returns-in_err-take_line-clause-halts
returns-in_err-take_line-clause-halts c = λ asked strict past is many.
    let told = err_from_is_err_and c.from_residual.result c.from_residual.ensures.1 in
    rw (told.1, told.2) (line_halted asked strict past (said_read c.args.said) c.args.self.now c.args.number _ is many
    (c.in_err-take_line.ensures.halts asked past (at_latest asked strict past c.args.self.now is)))

pub returns-in_err-grow-clause-halts : goal.returns-in_err-grow-clause-halts
returns-in_err-grow-clause-halts c = λ asked strict past is many.
    let p = err_from_is_err_and c.from_residual-in_err-grow.result c.from_residual-in_err-grow.ensures.1 in
    rw p.1 (memory_halts _ _ p.2)

pub returns-clause-plain : goal.returns-clause-plain
returns-clause-plain c =
    subst (λ (time : ℕ). IsPlainPass time c.take_line.new.pass) (sym c.in_ok-take_line.ensures.forgets)
    (room_taken (told_to_forget c.args.self.now.pass) c.args.self.now.pass c.take_line.new.pass (said_read c.args.said) c.requires
    (λ asked past at. c.in_ok-take_line.ensures.taken asked past (told_to_forget c.args.self.now.pass) at)
    (λ asked past at. c.in_ok-take_line.ensures.stands asked past (told_to_forget c.args.self.now.pass) at))

pub returns-clause-taken : goal.returns-clause-taken
returns-clause-taken c = λ asked strict past is many.
    taken_so asked strict past (said_read c.args.said) c.args.self.now _ is
    (c.in_ok-take_line.ensures.stands asked past (told_to_forget c.args.self.now.pass) is.stands) c.in_ok-take_line.ensures.forgets
    (c.in_ok-take_line.ensures.taken asked past (told_to_forget c.args.self.now.pass) is.stands)
    (c.in_ok-take_line.ensures.unchanged asked past (at_latest asked strict past c.args.self.now is))
    (grown_of c.args.self.now.processors.items c.grow.new.processors.items c.args.self.now.unseen c.processor_of-told.result (next_processor (said_read c.args.said))
    c.processor_of-told.ensures c.in_ok-grow.ensures.same c.in_ok-grow.ensures.grown) refl refl refl
