use Rattle.base.proofs.Common.{◌∙◌, List, None, sym, subst, err_from_is_err_and}
use Rattle.yds_trace.specs.Kept.{told_to_forget}
use Rattle.yds_trace_parts.specs.declared.processors.Processor.{Processor}
use Rattle.yds_trace_parts.specs.Telling.{IsHaltFor, last_at, AreLast, cuts_of, NoneEndsBefore}
use Rattle.yds_trace_parts.proofs.Behind.{of_told}
use Rattle.yds_trace_parts.proofs.Parting.{memory_halts}
use Rattle.yds_trace_parts.proofs.Plain.{look_shown}
use Rattle.yds_trace_parts.proofs.Taking.{last_told, last_no_job, last_halted}
use Rattle.yds_trace_parts.proofs.telling.Telling.write_last.Goals as goal

pub last_pieces-requires : goal.last_pieces-requires
last_pieces-requires c =
    look_shown (told_to_forget c.args.self.now.pass) c.args.self.now.pass c.in_ok-shown.shown c.requires
    (λ words past at. c.in_ok-shown.ensures words past (told_to_forget c.args.self.now.pass) at)

pub returns-in_err-shown-clause-halts : goal.returns-in_err-shown-clause-halts
returns-in_err-shown-clause-halts c = λ asked strict past is.
    let p = err_from_is_err_and c.from_residual.result c.from_residual.ensures.1 in
    rw p.1 (memory_halts _ _ p.2)

pub returns-in_err-last-clause-halts : goal.returns-in_err-last-clause-halts
returns-in_err-last-clause-halts c = λ asked strict past is.
    let told = err_from_is_err_and c.from_residual-in_err-last.result c.from_residual-in_err-last.ensures.1 in
    let time = told_to_forget c.args.self.now.pass in
    rw (told.1, told.2) (last_halted asked strict past c.args.self.now _ is
    (subst (λ (ones : List Processor). IsHaltFor (last_at asked c.args.self.now.strict past ones).halt c.in_err-last.field-0.0) c.deref.ensures.value
    (c.in_err-last.ensures.halts asked past time is.stands (c.in_ok-shown.ensures asked past time is.stands)
    (subst (λ (ones : List Processor). NoneEndsBefore time (cuts_of ones None)) (sym c.deref.ensures.value)
    (of_told time c.args.self.now.processors.items c.args.self.now.unseen is.is_written.later.1)))))

pub returns-then-lacks_job-clause-halts : goal.returns-then-lacks_job-clause-halts
returns-then-lacks_job-clause-halts c = λ asked strict past is.
    let time = told_to_forget c.args.self.now.pass in
    last_no_job asked strict past c.args.self.now c.in_ok-last.last is
    (subst (λ (ones : List Processor). AreLast asked c.args.self.now.strict past ones c.in_ok-last.last) c.deref.ensures.value
    (c.in_ok-last.ensures.made asked past time is.stands (c.in_ok-shown.ensures asked past time is.stands)
    (subst (λ (ones : List Processor). NoneEndsBefore time (cuts_of ones None)) (sym c.deref.ensures.value)
    (of_told time c.args.self.now.processors.items c.args.self.now.unseen is.is_written.later.1)))) (sym c.lacks_job.ensures ∙ c.if-lacks_job.true)

pub returns-clause-told : goal.returns-clause-told
returns-clause-told c = λ asked strict past is.
    let time = told_to_forget c.args.self.now.pass in
    last_told asked strict past c.args.self.now c.in_ok-last.last is
    (subst (λ (ones : List Processor). AreLast asked c.args.self.now.strict past ones c.in_ok-last.last) c.deref.ensures.value
    (c.in_ok-last.ensures.made asked past time is.stands (c.in_ok-shown.ensures asked past time is.stands)
    (subst (λ (ones : List Processor). NoneEndsBefore time (cuts_of ones None)) (sym c.deref.ensures.value)
    (of_told time c.args.self.now.processors.items c.args.self.now.unseen is.is_written.later.1)))) (sym c.lacks_job.ensures ∙ c.if-lacks_job.false)
