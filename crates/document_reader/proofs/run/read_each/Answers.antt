use Rattle.yds_model.proofs.Common.{sym, ◌∙◌, err_from_is_err_and, RunLine}
use Rattle.yds_text.specs.Read.{field_read}
use Rattle.document_reader.proofs.Told.{passed_on, fields_refused, holds_more, run_same}
use Rattle.document_reader.proofs.run.read_each.Goals as goal

pub returns-in_err-slot-clause-reads : goal.returns-in_err-slot-clause-reads
returns-in_err-slot-clause-reads c = λ earlier holds.
    let f = c.in_ok-name in
    passed_on _ c.in_err-slot.field-0.0 _ _ _ (err_from_is_err_and _ c.from_residual-in_err-slot.ensures.1)
    (fields_refused RunLine earlier _ _ _ f.ensures
    (sym (run_same c.args.draft.now earlier _ (field_read c.args.kind) (field_read f.name) (field_read f.from) (field_read f.to) (field_read f.speed) holds c.unwrap_or-ticks.ensures) ∙ c.in_err-slot.ensures.gives))

pub returns-clause-reads : goal.returns-clause-reads
returns-clause-reads c = λ earlier holds.
    let f = c.in_ok-name in
    holds_more RunLine earlier _ _ _ c.args.draft.now _ f.ensures
    (sym (run_same c.args.draft.now earlier _ (field_read c.args.kind) (field_read f.name) (field_read f.from) (field_read f.to) (field_read f.speed) holds c.unwrap_or-ticks.ensures) ∙ c.in_ok-slot.ensures.gives)
    holds c.in_ok-add.ensures.takes
