use Rattle.yds_model.proofs.Common.{◌∙◌, level_row}
use Rattle.yds_port.proofs.Putting.{item_put, item_failed, all_put}
use Rattle.yds_report.proofs.Rows.{numbered_at, numbered_within, numbered_count}
use Rattle.yds_report.proofs.reporting.write_levels.Goals as goal

pub returns-in_err-write_all : goal.returns-in_err-write_all
returns-in_err-write_all g c =
    item_failed level_row _ _ _ c.from_residual.ensures.0 (numbered_within c.args.levels.now _ c.loop-place-test.true)
    (numbered_at c.args.levels.now _ _ c.loop-place-test.true c.index-levels-place.is) (c.as_bytes.ensures ∙ c.put_level.ensures)
    c.loop-place.invariant c.in_err-write_all.ensures.puts

pub loop-place-preserved : goal.loop-place-preserved
loop-place-preserved g c =
    item_put level_row _ _ (numbered_within c.args.levels.now _ c.loop-place-test.true)
    (numbered_at c.args.levels.now _ _ c.loop-place-test.true c.index-levels-place.is) (c.as_bytes.ensures ∙ c.put_level.ensures)
    c.loop-place.invariant c.in_ok-write_all.ensures.puts

pub returns : goal.returns
returns g c = all_put level_row _ (numbered_count c.args.levels.now c.loop-place.place c.loop-place-test.false) c.loop-place.invariant
