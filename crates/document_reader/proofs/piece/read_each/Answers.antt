use Rattle.yds_model.proofs.Common.{err_from_is_err_and, PieceLine}
use Rattle.document_reader.proofs.Told.{passed_on, fields_refused}
use Rattle.document_reader.proofs.piece.read_each.Goals as goal

pub returns-in_err-piece-clause-reads : goal.returns-in_err-piece-clause-reads
returns-in_err-piece-clause-reads c = λ earlier holds.
    passed_on _ c.in_err-piece.field-0.0 _ _ _ (err_from_is_err_and _ c.from_residual-in_err-piece.ensures.1)
    (fields_refused PieceLine earlier _ _ _ c.in_ok-from.ensures c.in_err-piece.ensures.gives)
