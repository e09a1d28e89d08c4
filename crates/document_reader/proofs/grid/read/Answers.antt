use Rattle.yds_model.proofs.Common.{err_from_is_err_and, GridLine}
use Rattle.document_reader.proofs.Told.{field_passed_on, fields_refused}
use Rattle.document_reader.proofs.grid.read.Goals as goal

pub returns-in_err-grid-2-clause-reads : goal.returns-in_err-grid-2-clause-reads
returns-in_err-grid-2-clause-reads c = λ earlier holds.
    field_passed_on _ c.in_err-grid-2.field-0.0 _ _ _ (err_from_is_err_and _ c.from_residual-in_err-grid-2.ensures.1)
    (fields_refused GridLine earlier _ _ _ c.in_ok-grid.ensures c.in_err-grid-2.ensures.gives)
