use Rattle.yds_model.proofs.Common.{sym, subst, ◌∙◌, err_from_is_err_and, PointLine}
use Rattle.yds_text.specs.Read.{field_read}
use Rattle.document_reader.specs.Fields.{Fails}
use Rattle.document_reader.proofs.Told.{passed, passed_on, fields_failed, fields_refused, holds_more, point_same, point_failed}
use Rattle.document_reader.proofs.point.read.Goals as goal

pub returns-in_err-point-clause-reads : goal.returns-in_err-point-clause-reads
returns-in_err-point-clause-reads c = λ earlier holds.
    let f = c.in_ok-speed in
    passed_on _ c.in_err-point.field-0.0 _ _ _ (err_from_is_err_and _ c.from_residual-in_err-point.ensures.1)
    (fields_refused PointLine earlier _ _ _ f.ensures (point_failed earlier (field_read c.args.kind) (field_read f.speed) (field_read f.power) _ c.in_err-point.ensures))

pub returns-in_err-add-clause-reads : goal.returns-in_err-add-clause-reads
returns-in_err-add-clause-reads c = λ earlier holds.
    let f = c.in_ok-speed in
    passed _ _ _ _ _ (err_from_is_err_and _ c.from_residual-in_err-add.ensures.1)
    (fields_failed PointLine earlier _ _ _ f.ensures
    (subst (Fails c.in_err-add.field-0.0) (point_same c.args.draft.now earlier (field_read c.args.kind) (field_read f.speed) (field_read f.power) _ holds c.in_ok-point.ensures) c.in_err-add.ensures.gives))

pub returns-clause-reads : goal.returns-clause-reads
returns-clause-reads c = λ earlier holds.
    let f = c.in_ok-speed in
    holds_more PointLine earlier _ _ _ c.args.draft.now _ f.ensures
    (sym (point_same c.args.draft.now earlier (field_read c.args.kind) (field_read f.speed) (field_read f.power) _ holds c.in_ok-point.ensures) ∙ c.in_ok-add.ensures.gives)
    holds c.in_ok-add.ensures.takes
