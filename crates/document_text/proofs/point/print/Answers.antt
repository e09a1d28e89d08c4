use Rattle.yds_model.proofs.Common.{◌∙◌, sym, point_line}
use Rattle.yds_port.proofs.Putting.{item_put, item_failed}
use Rattle.document_text.proofs.point.print.Goals as goal

pub returns-in_err-write_all : goal.returns-in_err-write_all
returns-in_err-write_all g c =
    item_failed point_line _ _ _ c.from_residual.ensures.0 c.loop-point-test.true (sym c.point-item.is) (c.as_bytes.ensures ∙ c.put.ensures) c.loop-point.invariant c.in_err-write_all.ensures.puts

pub loop-point-preserved : goal.loop-point-preserved
loop-point-preserved g c =
    item_put point_line _ _ c.loop-point-test.true (sym c.point-item.is) (c.as_bytes.ensures ∙ c.put.ensures) c.loop-point.invariant c.in_ok-write_all.ensures.puts
