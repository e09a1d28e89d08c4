use Rattle.yds_model.proofs.Common.{◌∙◌, sym, break_line}
use Rattle.yds_port.proofs.Putting.{item_put, item_failed, all_put}
use Rattle.yds_answer_plans.proofs.curve.write_breaks.Goals as goal

pub returns-in_err-write_all : goal.returns-in_err-write_all
returns-in_err-write_all g c =
    item_failed break_line _ _ _ c.from_residual.ensures.0 c.loop-bend-test.true (sym c.bend-item.is) (c.as_bytes.ensures ∙ c.put_break.ensures)
    c.loop-bend.invariant c.in_err-write_all.ensures.puts

pub loop-bend-preserved : goal.loop-bend-preserved
loop-bend-preserved g c =
    item_put break_line _ _ c.loop-bend-test.true (sym c.bend-item.is) (c.as_bytes.ensures ∙ c.put_break.ensures) c.loop-bend.invariant c.in_ok-write_all.ensures.puts

pub returns : goal.returns
returns g c = all_put break_line _ c.loop-bend-test.false c.loop-bend.invariant
