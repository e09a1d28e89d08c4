use Rattle.yds_model.proofs.Common.{err_from_is_err_and, LevelLine}
use Rattle.document_reader.proofs.Told.{passed_on, fields_refused}
use Rattle.document_reader.proofs.level.read_each.Goals as goal

pub returns-in_err-work-2-clause-reads : goal.returns-in_err-work-2-clause-reads
returns-in_err-work-2-clause-reads c = λ earlier holds.
    passed_on _ c.in_err-work-2.field-0.0 _ _ _ (err_from_is_err_and _ c.from_residual-in_err-work-2.ensures.1)
    (fields_refused LevelLine earlier _ _ _ c.in_ok-work.ensures c.in_err-work-2.ensures.gives)
