use Rattle.yds_model.proofs.Common.{sym, ◌∙◌, err_from_is_err_and, SlotLine}
use Rattle.yds_text.specs.Read.{field_read}
use Rattle.document_reader.proofs.Told.{passed_on, fields_refused, holds_more, slot_same}
use Rattle.document_reader.proofs.slot.read_each.Goals as goal

pub returns-in_err-slot-clause-reads : goal.returns-in_err-slot-clause-reads
returns-in_err-slot-clause-reads c = λ earlier holds.
    let f = c.in_ok-fields in
    passed_on _ c.in_err-slot.field-0.0 _ _ _ (err_from_is_err_and _ c.from_residual-in_err-slot.ensures.1)
    (fields_refused SlotLine earlier _ _ _ f.ensures
    (sym (slot_same c.args.draft.now earlier (field_read c.args.kind) (field_read f.fields.0) (field_read f.fields.1) (field_read f.fields.2) (field_read f.fields.3) holds) ∙ c.in_err-slot.ensures.gives))

pub returns-clause-reads : goal.returns-clause-reads
returns-clause-reads c = λ earlier holds.
    let f = c.in_ok-fields in
    holds_more SlotLine earlier _ _ _ c.args.draft.now _ f.ensures
    (sym (slot_same c.args.draft.now earlier (field_read c.args.kind) (field_read f.fields.0) (field_read f.fields.1) (field_read f.fields.2) (field_read f.fields.3) holds) ∙ c.in_ok-slot.ensures.gives)
    holds c.in_ok-add.ensures.takes
