use Rattle.yds_model.proofs.Common.{sym, subst}
use Rattle.document_reader.specs.Fields.{Fails}
use Rattle.document_reader.specs.Point.{point_after}
use Rattle.document_reader.specs.declared.line_fault.LineFault.{LineFault}
use Rattle.document_reader.proofs.PointTable.{point_ok, point_err}
use Rattle.document_reader.proofs.point.next_point.Goals as goal

pub returns-in-Ok-clause-gives : goal.returns-in-Ok-clause-gives
returns-in-Ok-clause-gives c = point_ok _ _ _ _ c.points-points.ensures.kept c.in-Ok.ensures.ok c.points-points-in-Ok.ensures.kept

pub returns-in-Err-clause-gives : goal.returns-in-Err-clause-gives
returns-in-Err-clause-gives c =
    subst (λ (f : LineFault). Fails f (point_after c.args.table.now c.args.point c.args.column)) (sym c.of_table.ensures)
    (point_err _ _ _ _ c.points-points.ensures.kept c.in-Err.ensures.err)
